-- A seat that waits goes on waiting by each step, until it holds the lock.
use Rattle.std.proofs.Common.{◌≡◌, ◌≢◌, ◌<◌, ◌+◌, ◌*◌, ℕ, ◌==◌, Bool, true, false, not, cond, List, [], ◌∷◌, refl, sym, ap, ◌∙◌, subst, ⊎_elim, arith}
use Rattle.std.specs.Prelude.{Option, Some, None}
use Rattle.shfl_line.specs.declared.events.Mode.{Mode}
use Rattle.shfl_line.specs.declared.events.Mode.TheVariants.{Write, Read}
use Rattle.shfl_core.specs.declared.phase.Phase.{Phase}
use Rattle.shfl_core.specs.declared.phase.Phase.TheVariants.{Release, ReadRelease}
use Rattle.shfl_core.specs.declared.phase.PassState.{PassState}
use Rattle.shfl_core.specs.Phases.{is_holding}
use Rattle.shfl_core.specs.Plan.{moving}
use Rattle.shfl_core.specs.Take.{take}
use Rattle.std.proofs.lemmas.Bool.Decides.{nat_tests}
use Rattle.shfl_laws.specs.Holds.{hold_of, is_ending, is_releasing}
use Rattle.shfl_laws.proofs.laws.Holds.{take-mode}
use Rattle.shfl_laws.proofs.laws.Waits.{waits-on}
use Rattle.shfl_laws.proofs.laws.MoveLaws.{resting-is}
use Rattle.shfl_arena.specs.Threads.{mode_held, resting}
use Rattle.shfl_arena.specs.ValueMoves.{writes, MovesValue}
use Rattle.shfl_arena.specs.SeatModels.{SeatModel, entering}
use Rattle.shfl_arena.specs.SeatSteps.{TakesStep, WinsAttempt, LosesAttempt, attempt_steps}
use Rattle.shfl_arena.specs.Waits.{TookAtOnce, QueuesAfter, TriedInVain, WaitsFor}
use Rattle.shfl_arena.proofs.Threads.{still-is}
use Rattle.shfl_arena.proofs.ValueMoves.{frees-writer}

-- one move of a value after another, where a hold that came stays
then-value : {X : Type 0} (slots l : ℕ) (b b' : Bool) (c d e : List (ℕ × Option X)) → (b ≡ true → b' ≡ true) → MovesValue {V = X} slots l false b c d → MovesValue {V = X} slots l b b' d e → MovesValue {V = X} slots l false b' c e
then-value {X} slots l false b' c d e keeps m n = record {
  stays = λ h. n.stays h ∙ m.stays refl;
  none = λ h. n.none h ∙ m.none h;
  gains = λ h z t. (let y = n.gains h refl t in (y.0, y.1 ∙ ap (λ k. (l, Some y.0) ∷ k) (m.stays refl)));
  frees = λ h z t. absurd (cc);
}
then-value {X} slots l true b' c d e keeps m n = let t : b' ≡ true = keeps refl in record {
  stays = λ h. absurd (let z : false ≡ true = h ∙ t in cc);
  none = λ h. n.none h ∙ m.none h;
  gains = λ h z w. (let y = m.gains h refl refl in (y.0, n.stays (sym t) ∙ y.1));
  frees = λ h z w. absurd (cc);
}

-- a pass that neither is idle nor leaves, and has no step to make, holds
holds-still : (q : PassState) → is_ending q.phase ≡ false → moving q ≡ false → hold_of q ≡ Some q.reg.mode
holds-still q on still = ⊎_elim
    (λ f. absurd (let z : is_ending q.phase ≡ true = ap is_ending f in cc))
    (λ r. (let f = (resting-is q r).0 in ap (λ z. cond (is_holding z) (Some q.reg.mode) None) f))
    (still-is q still)

not-releasing : (f : Phase) → is_ending f ≡ false → is_releasing f ≡ true → ⊥
not-releasing Release e r = cc
not-releasing ReadRelease e r = cc
not-releasing _ e r = cc

module _ {X : Type 0} (lock : ℕ) (mode : Mode) (old : SeatModel X) where
  pub waits-more : (mid new : SeatModel X) (choice : Bool) → WaitsFor {X = X} lock mode old mid → TakesStep {X = X} mid choice new → WaitsFor {X = X} lock mode old new
  waits-more mid new choice w s = record {
    arena = ap (λ (z : SeatModel X). z.arena) s.row ∙ w.arena;
    number = s.number ∙ w.number;
    lock_is = ap (λ (z : SeatModel X). z.lock) s.row ∙ w.lock_is;
    mode_is = mode';
    goes_on = on';
    here = λ g. subst (λ l. mode_held l new.holds ≡ Some mode) w.lock_is (s.here g ∙ (holds-still new.own on' g ∙ ap Some mode'));
    elsewhere = λ l d. s.elsewhere l (λ e. d (e ∙ w.lock_is)) ∙ w.elsewhere l d;
    value = then-value {X = X} old.arena.table.slots lock (writes mid.own) (writes new.own) old.values mid.values new.values keeps w.value
        (subst (λ (z : ℕ × ℕ). MovesValue {V = X} z.0 z.1 (writes mid.own) (writes new.own) mid.values new.values) (λ j. ((ap (λ z. z.table.slots) w.arena) j, w.lock_is j)) s.value);
  }
    where
      own-is : new.own ≡ take mid.arena.rules mid.own.reg.me mid.own s.found choice
      own-is = ap (λ (z : SeatModel X). z.own) s.row

      mode' : new.own.reg.mode ≡ mode
      mode' = ap (λ (z : PassState). z.reg.mode) own-is ∙ (take-mode mid.arena.rules mid.own.reg.me mid.own s.found choice ∙ w.mode_is)

      on' : is_ending new.own.phase ≡ false
      on' = ap (λ (z : PassState). is_ending z.phase) own-is ∙ waits-on mid.arena.rules mid.own.reg.me mid.own s.found choice w.goes_on

      keeps : writes mid.own ≡ true → writes new.own ≡ true
      keeps h = by (writes new.own) refl
        where
          by : (b : Bool) → writes new.own ≡ b → writes new.own ≡ true
          by true e = e
          by false e = absurd (not-releasing mid.own.phase w.goes_on (frees-writer mid.arena.rules mid.own.reg.me mid.own s.found choice h (ap writes (sym own-is) ∙ e)).0)

  entering-on : (k : ℕ) (m : Mode) → (is_ending (entering k m).phase ≡ false) × (moving (entering k m) ≡ true) × (writes (entering k m) ≡ false)
  entering-on k Write = (refl, refl, refl)
  entering-on k Read = (refl, refl, refl)

  -- a seat that begins to take the lock
  pub waits-first : (new : SeatModel X) → new ≡ record old { lock = lock; own = entering old.own.reg.me mode } → WaitsFor {X = X} lock mode old new
  waits-first new e = let p = entering-on old.own.reg.me mode in record {
    arena = ap (λ (z : SeatModel X). z.arena) e;
    number = ap (λ (z : SeatModel X). z.own.reg.me) e;
    lock_is = ap (λ (z : SeatModel X). z.lock) e;
    mode_is = ap (λ (z : SeatModel X). z.own.reg.mode) e;
    goes_on = ap (λ (z : SeatModel X). is_ending z.own.phase) e ∙ p.0;
    here = λ g. absurd (let z : moving new.own ≡ true = ap (λ (z : SeatModel X). moving z.own) e ∙ p.1 in cc);
    elsewhere = λ i d. ap (λ (z : SeatModel X). mode_held i z.holds) e;
    value = let same : new.values ≡ old.values = ap (λ (z : SeatModel X). z.values) e in
        let still : writes new.own ≡ false = ap (λ (z : SeatModel X). writes z.own) e ∙ p.2 in record {
          stays = λ _. same;
          none = λ _. same;
          gains = λ _ _ t. absurd (let z : false ≡ true = sym still ∙ t in cc);
          frees = λ _ t _. absurd (cc);
        };
  }

  resting-on : (k : ℕ) (m : Mode) → (is_ending (resting k m).phase ≡ false) × (moving (resting k m) ≡ false)
  resting-on k m = (refl, refl)

  -- a seat whose attempt took the lock
  pub waits-won : (new : SeatModel X) → WinsAttempt {X = X} lock mode old new → WaitsFor {X = X} lock mode old new × (moving new.own ≡ false)
  waits-won new a = (
    record {
      arena = ap (λ (z : SeatModel X). z.arena) a.after;
      number = ap (λ (z : SeatModel X). z.own.reg.me) a.after;
      lock_is = ap (λ (z : SeatModel X). z.lock) a.after;
      mode_is = ap (λ (z : SeatModel X). z.own.reg.mode) a.after;
      goes_on = ap (λ (z : SeatModel X). is_ending z.own.phase) a.after;
      here = λ g. ap (λ (z : SeatModel X). mode_held lock z.holds) a.after ∙ ap (λ b. cond b (Some mode) (mode_held lock old.holds)) same;
      elsewhere = λ l d. ap (λ (z : SeatModel X). mode_held l z.holds) a.after ∙ ap (λ b. cond b (Some mode) (mode_held l old.holds)) (else l d);
      value = a.value;
    },
    ap (λ (z : SeatModel X). moving z.own) a.after,
  )
    where
      same : (lock == lock) ≡ true
      same = grind (arith, nat_tests)

      else : (l : ℕ) → l ≢ lock → (lock == l) ≡ false
      else l d = grind (arith, nat_tests)

one-more : (m : Mode) (n : ℕ) → (n + 1) * attempt_steps m ≡ n * attempt_steps m + attempt_steps m
one-more Write n = omega arith
one-more Read n = omega arith

module _ {X : Type 0} (lock : ℕ) (mode : Mode) (attempts : ℕ) (old tried new : SeatModel X) (v : TriedInVain {X = X} mode attempts old tried) where
  -- one more try in vain
  pub tried-more : (word : ℕ) → LosesAttempt {X = X} lock mode word tried new → TriedInVain {X = X} mode (attempts + 1) old new
  tried-more word l = record {
    arena = ap (λ (z : SeatModel X). z.arena) l.after ∙ v.arena;
    number = ap (λ (z : SeatModel X). z.own.reg.me) l.after ∙ v.number;
    rests = ap (λ (z : SeatModel X). moving z.own) l.after;
    holds = ap (λ (z : SeatModel X). z.holds) l.after ∙ v.holds;
    steps = (let a = v.steps in let b : new.steps_taken ≡ tried.steps_taken + attempt_steps mode = ap (λ (z : SeatModel X). z.steps_taken) l.after in let d = one-more mode attempts in omega arith);
    decisions = ap (λ (z : SeatModel X). z.decisions) l.after ∙ v.decisions;
    values = ap (λ (z : SeatModel X). z.values) l.after ∙ v.values;
  }

  -- what waits after tries in vain waits from before them
  pub waits-after : WaitsFor {X = X} lock mode tried new → WaitsFor {X = X} lock mode old new
  waits-after w = record {
    arena = w.arena ∙ v.arena;
    number = w.number ∙ v.number;
    lock_is = w.lock_is;
    mode_is = w.mode_is;
    goes_on = w.goes_on;
    here = w.here;
    elsewhere = λ l d. w.elsewhere l d ∙ ap (mode_held l) v.holds;
    value = subst (λ (z : ℕ × List (ℕ × Option X)). MovesValue {V = X} z.0 lock false (writes new.own) z.1 new.values)
        (λ j. ((ap (λ z. z.table.slots) v.arena) j, v.values j)) w.value;
  }

  -- where it may have tried once more
  pub took-at-once : (most : ℕ) → attempts < most → WinsAttempt {X = X} lock mode tried new → TookAtOnce {X = X} most lock mode old new
  took-at-once most few a = record { tries = attempts; few = few; before = tried; vain = v; won = a }

  -- and then began to take the lock
  pub queues-first : (began : Bool) → began ≡ not (moving tried.own) → (began ≡ true → new ≡ record tried { lock = lock; own = entering tried.own.reg.me mode }) → QueuesAfter {X = X} attempts lock mode old new
  queues-first began answer after = record { before = tried; vain = v; steps = []; since = after (answer ∙ ap not v.rests) }

  -- a try that took the lock
  pub tried-won : WinsAttempt {X = X} lock mode tried new → WaitsFor {X = X} lock mode old new × (moving new.own ≡ false)
  tried-won a = let w = waits-won lock mode tried new a in (waits-after w.0, w.1)
