-- The number of each lawful world that says how much is left until its lock has drained.
use Rattle.std.proofs.Common.{◌≡◌, ◌≢◌, ℕ, ◌+◌, ◌*◌, ◌<◌, ◌≤◌, Bool, true, false, cond, ◌==◌, length, get_or-set_other, refl, sym, ap, ◌∙◌, subst, ⊎_elim, arith}
use Rattle.std.specs.Prelude.{◌&&◌, not}
use Rattle.std.proofs.lemmas.Bool.Decides.{nat_tests}
use Rattle.shfl_line.specs.declared.events.Mode.{Mode}
use Rattle.shfl_line.specs.declared.events.Mode.TheVariants.{Write, Read}
use Rattle.shfl_line.specs.declared.events.LineEvent.{LineEvent}
use Rattle.shfl_line.specs.declared.events.LineEvent.TheVariants as event
use Rattle.shfl_line.specs.Line.{Line, mark_of}
use Rattle.shfl_line.specs.Words.{ready_of}
use Rattle.shfl_line.proofs.Chain
use Rattle.shfl_core.specs.declared.phase.Phase.{Phase}
use Rattle.shfl_core.specs.declared.phase.Phase.TheVariants as phase
use Rattle.shfl_core.specs.declared.words.Word.TheVariants.{Lock, State as StateOf}
use Rattle.shfl_core.specs.Words.{look, site}
use Rattle.shfl_core.specs.Events.{event as event_of}
use Rattle.shfl_core.specs.Plan.{plan, moving, is_awake, is_held, is_resting}
use Rattle.shfl_core.specs.Take.{released, exit}
use Rattle.shfl_core.specs.Waiting.{idle}
use Rattle.shfl_core.specs.Worlds.{World, known, placed_at, stepped, Move, Acquire, Release, Step, after_move}
use Rattle.shfl_core.specs.Holding.{total}
use Rattle.shfl_core.specs.Lawful.{Terms, count, Lawful, Advances}
use Rattle.shfl_core.proofs.Lists.{past, below-or}
use Rattle.shfl_laws.specs.Moves.{move_event}
use Rattle.shfl_laws.specs.RoundMeasure.{round_measure}
use Rattle.shfl_laws.proofs.words.Frame.{known-set}
use Rattle.shfl_laws.proofs.rounds.MeasureRounds.{own-lowers, others-keep}
use Rattle.shfl_drain.specs.GoingOn.{waits, goes_on}
use Rattle.shfl_drain.specs.Drain.{is_acquire, DrainNumber}
use Rattle.shfl_drain.proofs.Bools.{true-or, both, not-is, true-not-false}
use Rattle.shfl_drain.proofs.Stages.{stage, stage_at}
use Rattle.shfl_drain.proofs.Slack.{slack}
use Rattle.shfl_drain.proofs.Number.{number, unmarked, most_wait, lower-stage, bounded, at-rest-none, drained}
use Rattle.shfl_drain.proofs.Row.{Leaves}
use Rattle.shfl_drain.proofs.AllRows.{StepLeaves, by-nap}

module _ (t : Terms) (w : World) (ok : Lawful t w) where
  -- where neither the world nor what it shows changes, nothing does
  pub unmoved : (ok' : Lawful t w) → ok'.shown ≡ ok.shown → number t w ok' ≡ number t w ok
  unmoved ok' e = ap (λ (s : Line). total (count t) (λ z. stage (known w.passes z) + unmarked (known w.passes z) (mark_of s z)) * (most_wait (count t) + 1)
      + total (count t) (λ z. slack (count t) (known w.passes z) (ready_of (look w.words (StateOf z))) (look w.words Lock) (mark_of s z) (round_measure (count t) s z (known w.passes z)))) e

  -- a pass with a step to make is one of the lock's
  pub moving-below : (p : ℕ) → moving (known w.passes p) ≡ true → p < length w.passes
  moving-below p m = ⊎_elim (λ h. h) (λ h. absurd (true-not-false (moving (known w.passes p)) m (ap moving (past w.passes p (idle p) h)))) (below-or p (length w.passes))

  resting-below : (p : ℕ) → is_resting (known w.passes p) ≡ true → p < length w.passes
  resting-below p m = ⊎_elim (λ h. h) (λ h. absurd (true-not-false (is_resting (known w.passes p)) m (ap is_resting (past w.passes p (idle p) h)))) (below-or p (length w.passes))

  not-own : (r p : ℕ) (b : Bool) → p ≢ r → ((r == p) && b) ≡ false
  not-own r p b n = by (r == p) (let z : (r == p) ≡ false = (let m : r ≢ p = (λ i. n (sym i)) in grind (arith, nat_tests, m)) in z)
    where
      by : (d : Bool) → d ≡ false → (d && b) ≡ false
      by true e = absurd (cc)
      by false e = refl

  is-own : (p : ℕ) (b : Bool) → b ≡ true → ((p == p) && b) ≡ true
  is-own p b e = let z : (p == p) ≡ true = grind (arith, nat_tests) in (λ j. z j && e j)

  not-awake : (p : ℕ) (b : Bool) → b ≡ false → ((p == p) && b) ≡ false
  not-awake p b e = let z : (p == p) ≡ true = grind (arith, nat_tests) in (λ j. z j && e j)

  pub step-leaves : (p : ℕ) (c : Bool) (a : Advances t w ok (move_event t.rules w (Step p c)) (after_move t.rules w (Step p c))) → moving (known w.passes p) ≡ true
      → Leaves t w ok (after_move t.rules w (Step p c)) a.lawful (waits w p)
  step-leaves p c a m = subst (λ b. StepLeaves t w ok p (moving-below p m) c b (known w.passes p).nap (known w.passes p).phase) (sym m)
      (by-nap t w ok p (moving-below p m) c m (known w.passes p).nap refl) a
      (λ z n r. (others-keep t w ok z (Step p c) a r (not-own p z (is_awake (known w.passes z).nap) n)).1)
      (λ e i j. own-lowers t w ok p (Step p c) a i (is-own p (is_awake (known w.passes p).nap) e) j)
      (λ e r. (others-keep t w ok p (Step p c) a r (not-awake p (is_awake (known w.passes p).nap) e)).1)

  pub release-leaves : (p : ℕ) (a : Advances t w ok (move_event t.rules w (Release p)) (after_move t.rules w (Release p))) → is_resting (known w.passes p) ≡ true
      → number t (after_move t.rules w (Release p)) a.lawful < number t w ok
  release-leaves p a e = lower-stage t w ok (after_move t.rules w (Release p)) a.lawful p (let h = resting-below p e in let s = ok.seats in omega arith)
      (λ z n. ap (λ b. known (cond b (placed_at w p (released (known w.passes p))) w).passes z) e ∙ get_or-set_other w.passes p z (released (known w.passes p)) (idle z) n)
      (λ z n i. sym (ap (λ (s : Line). mark_of s z) a.shown) ∙ i)
      (record (known w.passes p) { phase = exit (known w.passes p).reg.mode })
      (ap (λ b. known (cond b (placed_at w p (released (known w.passes p))) w).passes p) e
      ∙ (known-set w.passes p (released (known w.passes p)) (resting-below p e) p ∙ (Chain.updated-same (known w.passes) p (released (known w.passes p))
      ∙ ap (λ b. cond b (record (known w.passes p) { phase = exit (known w.passes p).reg.mode }) (known w.passes p)) e)))
      (let x = held (known w.passes p).phase (both (is_held (known w.passes p).phase) (is_awake (known w.passes p).nap) e).0 in let y = leaves (known w.passes p).reg.headed (known w.passes p).reg.mode in omega arith)
    where
      held : (f : Phase) → is_held f ≡ true → stage_at (known w.passes p).reg.headed f ≡ 4
      held phase.Held i = refl
      held _ i = absurd (cc)

      leaves : (h : Bool) (m : Mode) → stage_at h (exit m) ≡ 2
      leaves h Write = refl
      leaves h Read = refl

  -- a move that isn't admitted changes nothing
  refused : (m : Move) (a : Advances t w ok (move_event t.rules w m) (after_move t.rules w m)) → move_event t.rules w m ≡ event.Nothing → after_move t.rules w m ≡ w → number t (after_move t.rules w m) a.lawful ≡ number t w ok
  refused m a e f = subst (λ (x : LineEvent × World). (b : Advances t w ok x.0 x.1) → x.0 ≡ event.Nothing → number t x.1 b.lawful ≡ number t w ok) (λ j. (sym e j, sym f j)) (λ b _. unmoved b.lawful b.shown) a e

  pub keeps : (m : Move) (a : Advances t w ok (move_event t.rules w m) (after_move t.rules w m)) → is_acquire m ≡ false → number t (after_move t.rules w m) a.lawful ≤ number t w ok
  keeps (Acquire p mode) a e = absurd (cc)
  keeps (Release p) a e = ⊎_elim
      (λ h. (let x = release-leaves p a h in omega arith))
      (λ h. (let x = refused (Release p) a refl (ap (λ b. cond b (placed_at w p (released (known w.passes p))) w) h) in omega arith))
      (true-or (is_resting (known w.passes p)))
  keeps (Step p c) a e = ⊎_elim
      (λ h. ⊎_elim (λ x. (omega arith)) (λ x. x.0) (step-leaves p c a h))
      (λ h. (let x = refused (Step p c) a (ap (λ b. cond b (event_of t.rules p (known w.passes p) (look w.words (site (plan t.rules p (known w.passes p))))) event.Nothing) h) (ap (λ b. cond b (stepped t.rules w p (known w.passes p) c) w) h) in omega arith))
      (true-or (moving (known w.passes p)))

  pub goes-lowers : (p : ℕ) (c : Bool) (a : Advances t w ok (move_event t.rules w (Step p c)) (after_move t.rules w (Step p c))) → goes_on w p ≡ true → number t (after_move t.rules w (Step p c)) a.lawful < number t w ok
  goes-lowers p c a e = let g = both (moving (known w.passes p)) (not (waits w p)) e in ⊎_elim (λ x. x) (λ x. absurd (true-not-false (waits w p) x.1 (not-is (waits w p) g.1))) (step-leaves p c a g.0)

pub drain-number : (t : Terms) → DrainNumber t
drain-number t = record {
  number = number t;
  bounded = bounded t;
  at_rest = at-rest-none t;
  drained = drained t;
  keeps = keeps t;
  steps = goes-lowers t;
  releases = release-leaves t;
}
