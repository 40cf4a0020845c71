use Rattle.std.proofs.Common.{refl, sym, ap, ◌∙◌, subst}
use Rattle.shfl_line.specs.declared.events.Form.TheVariants.{Park}
use Rattle.shfl_core.specs.declared.phase.PassState.{PassState}
use Rattle.shfl_core.specs.declared.phase.Rules.{Rules}
use Rattle.shfl_core.specs.Take.{take}
use Rattle.shfl_core.specs.Waiting.{Meaning, takes}
use Rattle.shfl_core.specs.Words.{site}
use Rattle.shfl_park.specs.Parking.{parked, Spins, cleared}
use Rattle.shfl_park.proofs.Parks.{spins-on, take-awake, take-napping}
use Rattle.shfl_park.proofs.ParkedWaiter.take.Goals as goal
use Rattle.shfl_park.proofs.ParkedWaiter.take.Goals.{in-Awake, in_default}

pub invariant_of-self : goal.invariant_of-self
invariant_of-self g c = let f = g.W.Waiter.meaning in elim c.match-self.branch [
  | in-Awake w ↦ subst (λ z. Spins (f z.inner)) (sym w.self-inside-is) (spins-on (f c.self.inside.inner) w.cleared-seen.result c.args.choice (f w.take.new.self) c.self.invariant w.take.ensures)
  | in_default w ↦ subst (λ z. Spins (f z.inner)) (sym w.self-inside-is) c.self.invariant
]

pub returns : goal.returns
returns g c = let f = g.W.Waiter.meaning in let i = c.self.inside in let n = c.args.found in let k = c.args.choice in let s : Rules = record { limit = 1; form = Park } in
    let nap-is = ap (λ (z : PassState). z.nap) c.take_row.ensures ∙ ap (λ (z : PassState). (take s z.reg.me z n k).nap) (c.stands-pass.ensures ∙ ap (λ (z : Meaning). z.pass) (sym c.self.view_is)) in
    let now-is = ap (λ (z : Meaning). takes z n k) c.self.view_is in elim c.match-self.branch [
      | in-Awake w ↦ (λ j. parked ((ap (λ z. f z.inner) w.self-inside-is ∙ (w.take.ensures ∙ (λ h. takes (f i.inner) ((w.cleared-seen.ensures ∙ ap (λ a. cleared (site a) n) w.plan.ensures) h) k))) j) (nap-is j))
          ∙ (take-awake s refl (f i.inner) i.nap n k c.self.invariant w.in-Awake.is ∙ now-is)
      | in_default w ↦ (λ j. parked (f (w.self-inside-is j).inner) (nap-is j)) ∙ (take-napping s (f i.inner) i.nap n k w.in_default.not-Awake ∙ now-is)
    ]
