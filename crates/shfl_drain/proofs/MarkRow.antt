-- The step that gives the candidate its batch number: the candidate has less far to go.
use Rattle.std.proofs.Common.{◌≡◌, ◌≢◌, ℕ, zero, suc, ◌+◌, ◌<◌, ◌≤◌, Bool, true, false, cond, ◌==◌, length, refl, sym, ap, ◌∙◌, inl, subst, arith}
use Rattle.std.specs.Prelude.{nat_lt}
use Rattle.shfl_line.specs.Passes.{times}
use Rattle.shfl_line.specs.Line.{Line, mark_of}
use Rattle.shfl_core.specs.declared.phase.Phase.TheVariants as phase
use Rattle.shfl_core.specs.declared.phase.Registers.{Registers as Regs}
use Rattle.shfl_core.specs.declared.phase.PassState.{PassState}
use Rattle.shfl_core.specs.Phases.{is_round, is_queued}
use Rattle.shfl_core.specs.Worlds.{World, known}
use Rattle.shfl_core.specs.View.{view}
use Rattle.shfl_core.specs.Events.{event_at}
use Rattle.shfl_core.specs.Lawful.{Terms, count, Lawful, Advances}
use Rattle.shfl_drain.specs.GoingOn.{waits_at}
use Rattle.shfl_drain.proofs.Stages.{stage}
use Rattle.shfl_drain.proofs.Spares.{marks-kept}
use Rattle.shfl_drain.proofs.Number.{way, unmarked, lower-way}
use Rattle.shfl_drain.proofs.Row.{found, goes, next, Leaves, below-all, stands-here, stands-else}
use Rattle.shfl_drain.proofs.Paces.{stage-round, unmarked-none}

module _ (t : Terms) (w : World) (ok : Lawful t w) (p : ℕ) (below : p < length w.passes) (c : Bool) (at : (known w.passes p).phase ≡ phase.Mark)
    (a : Advances t w ok (event_at t.rules p (known w.passes p).reg (found t w p phase.Mark) phase.Mark) (next t w p phase.Mark c)) where
  abbrev r : Regs
  r = (known w.passes p).reg

  marks : (z : ℕ) → mark_of a.lawful.shown z ≡ 0 → mark_of ok.shown z ≡ 0
  marks z e = marks-kept ok.shown p z (sym (ap (λ (s : Line). mark_of s z) a.shown) ∙ e)

  rounds : is_round (known w.passes p).phase ≡ true
  rounds = ap is_round at

  on : (b : Bool) → is_round (cond b phase.Next phase.Give) ≡ true
  on true = refl
  on false = refl

  still : is_round (known (next t w p phase.Mark c).passes p).phase ≡ true
  still = ap (λ (q : PassState). is_round q.phase) (stands-here t w ok p below phase.Mark c) ∙ on (nat_lt (r.count + 1) t.rules.limit)

  last-is : (known (next t w p phase.Mark c).passes p).reg.last ≡ (known w.passes p).reg.cand
  last-is = ap (λ (q : PassState). q.reg.last) (stands-here t w ok p below phase.Mark c)

  cand-some : 0 < mark_of a.lawful.shown (known w.passes p).reg.cand
  cand-some = subst (λ z. 0 < mark_of a.lawful.shown z) last-is (a.lawful.agrees.grouping.last p still).0.marked

  cand-below : (known w.passes p).reg.cand < count t
  cand-below = a.lawful.of_passes.line r.cand (subst (λ z. 0 < times z a.lawful.shown.line) last-is (a.lawful.agrees.grouping.last p still).0.inside)

  cand-none : mark_of ok.shown (known w.passes p).reg.cand ≡ 0
  cand-none = ((ok.agrees.order.round p rounds).marking at).1

  own-some : 0 < mark_of ok.shown p
  own-some = (ok.agrees.grouping.walker p (ok.agrees.grouping.walks p rounds)).1

  other : (known w.passes p).reg.cand ≢ p
  other e = let x = cand-none in let y = own-some in let z = ap (mark_of ok.shown) e in omega arith

  queued : is_queued (known w.passes (known w.passes p).reg.cand) ≡ true
  queued = ap is_queued (sym (stands-else t w ok p below phase.Mark c r.cand other)) ∙ by (is_queued (known (next t w p phase.Mark c).passes r.cand)) (a.lawful.agrees.grouping.mark r.cand)
    where
      by : (b : Bool) → mark_of a.lawful.shown (known w.passes p).reg.cand ≡ cond b ((view (next t w p phase.Mark c)).node (known w.passes p).reg.cand).batch 0 → b ≡ true
      by true e = refl
      by false e = absurd (let x = cand-some in omega arith)

  cand-less : way t (next t w p phase.Mark c) a.lawful (known w.passes p).reg.cand < way t w ok (known w.passes p).reg.cand
  cand-less = subst (λ (q : PassState). stage q + unmarked q (mark_of a.lawful.shown r.cand) < way t w ok r.cand) (sym (stands-else t w ok p below phase.Mark c r.cand other))
      (let x = unmarked-none (known w.passes r.cand) (mark_of a.lawful.shown r.cand) cand-some in
      let y : ◌≡◌ {A = ℕ} (unmarked (known w.passes r.cand) (mark_of ok.shown r.cand)) 1 = (λ j. cond (queued j) (cond (cand-none j == 0) 1 0) 0) in omega arith)

  own-still : 0 < mark_of a.lawful.shown p
  own-still = by (mark_of a.lawful.shown p) refl
    where
      by : (n : ℕ) → mark_of a.lawful.shown p ≡ n → 0 < mark_of a.lawful.shown p
      by zero e = absurd (let x = marks p e in let y = own-some in omega arith)
      by (suc n) e = omega arith

  own-no-more : way t (next t w p phase.Mark c) a.lawful p ≤ way t w ok p
  own-no-more = subst (λ (q : PassState). stage q + unmarked q (mark_of a.lawful.shown p) ≤ way t w ok p) (sym (stands-here t w ok p below phase.Mark c))
      (let x = unmarked-none (goes t w p phase.Mark c) (mark_of a.lawful.shown p) own-still in
      let y = stage-round (goes t w p phase.Mark c).reg.headed (goes t w p phase.Mark c).phase (on (nat_lt (r.count + 1) t.rules.limit)) in
      let z = stage-round r.headed (known w.passes p).phase rounds in omega arith)

  pub mark-row : Leaves t w ok (next t w p phase.Mark c) a.lawful (waits_at w p phase.Mark)
  mark-row = inl (lower-way t w ok (next t w p phase.Mark c) a.lawful p (below-all t w ok p below phase.Mark c) (stands-else t w ok p below phase.Mark c) (λ z _. marks z) r.cand cand-below own-no-more cand-less)
