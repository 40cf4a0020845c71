-- Rounds in a lock with all its seats filled: what is left of one by the shown line, and that each that begins is short.
use Rattle.std.proofs.Common.{◌≡◌, ℕ, ◌+◌, ◌*◌, ◌≤◌, ◌<◌, true, length, refl, sym, ap, ◌∙◌, subst, eq-eqb, arith}
use Rattle.std.specs.Prelude.{◌&&◌}
use Rattle.shfl_core.specs.declared.phase.Rules.{Rules}
use Rattle.shfl_core.specs.Plan.{is_awake}
use Rattle.shfl_core.specs.Worlds.{World, known, Step, after_move}
use Rattle.shfl_core.specs.Runner.{moved}
use Rattle.shfl_core.specs.Lawful.{Terms, count, Lawful, Advances}
use Rattle.shfl_laws.specs.Moves.{move_event}
use Rattle.shfl_laws.specs.RoundMeasure.{round_measure}
use Rattle.shfl_laws.specs.Rounds.{left, is_own, round_left, RoundsGoOn, BeginsShortRound, StepBeginsShortRound}
use Rattle.shfl_laws.proofs.laws.Laws.{laws}
use Rattle.shfl_laws.proofs.rounds.MeasureRounds.{own-lowers, others-keep, begins-bounded, rounds-short}
use Rattle.shfl_laws.proofs.laws.MoveLaws.{move-law, moved-long}
use Rattle.shfl_laws.proofs.shown.ShownLine.{shown-line-law}

-- the two ways to say what is left are one
left-shown : (t : Terms) (w : World) (ok : Lawful t w) (p : ℕ) → length w.passes ≡ count t → left t w ok p ≡ round_left w p
left-shown t w ok p full = λ j. round_measure (sym full j) (shown-line-law t w ok full j) p (known w.passes p)

pub rounds-go-on : (t : Terms) → RoundsGoOn t
rounds-go-on t w m p ok full may = record {
  own = λ i o j. subst (λ (z : ℕ × ℕ). z.0 < z.1) (λ k. (after-is k, before-is k)) (own-lowers t w ok p m a i o j);
  others = λ i o. let h = others-keep t w ok p m a i o in (h.0, sym after-is ∙ (h.1 ∙ before-is));
  begins = λ f o i. subst (λ (z : ℕ × ℕ). z.0 ≤ 9 * z.1 + 2) (λ k. (after-is k, sym full k)) (begins-bounded t w ok p m a f o i);
}
  where
    a : Advances t w ok (move_event t.rules w m) (after_move t.rules w m)
    a = move-law t (laws t) m w ok may

    before-is : left t w ok p ≡ round_left w p
    before-is = left-shown t w ok p full

    after-is : left t (after_move t.rules w m) a.lawful p ≡ round_left (after_move t.rules w m) p
    after-is = left-shown t (after_move t.rules w m) a.lawful p (moved-long t.rules w m ∙ full)

pub begins-short : (t : Terms) → StepBeginsShortRound t
begins-short t lock p choice is ok full = subst (λ (r : Rules). BeginsShortRound (record lock { rules = r }) p (moved (record lock { rules = r }) (Step p choice))) (sym is) short
  where
    short : BeginsShortRound (record lock { rules = t.rules }) p (moved (record lock { rules = t.rules }) (Step p choice))
    short begins awake moves may = let own : is_own lock.world p (Step p choice) ≡ true = ap (λ b. b && is_awake (known lock.world.passes p).nap) (eq-eqb p p refl) ∙ awake in
        let law = rounds-short laws t lock.world ok p (Step p choice) moves tt may begins own in omega arith
