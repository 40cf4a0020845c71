-- What an attempt tells, by its one or two steps.
use Rattle.std.proofs.Common.{◌≡◌, ◌≢◌, ℕ, ◌+◌, ◌++◌, ◌==◌, Bool, true, false, cond, List, [], ◌∷◌, refl, sym, ap, ◌∙◌, arith, append-nil, eq-eqb}
use Rattle.std.specs.Prelude.{Some, None, ◌||◌}
use Rattle.shfl_line.specs.declared.events.Mode.{Mode}
use Rattle.shfl_line.specs.declared.events.Mode.TheVariants.{Write, Read}
use Rattle.shfl_line.specs.Words.{held_of, closed_of}
use Rattle.shfl_core.specs.declared.phase.Phase.TheVariants.{TryUncount}
use Rattle.shfl_core.specs.declared.phase.Nap.TheVariants.{Awake}
use Rattle.shfl_core.specs.declared.phase.PassState.{PassState}
use Rattle.shfl_core.specs.Plan.{is_held, moving}
use Rattle.shfl_core.specs.Take.{attempted, take}
use Rattle.shfl_core.specs.Waiting.{blank}
use Rattle.shfl_arena.specs.Threads.{mode_held, without_lock, resting}
use Rattle.shfl_arena.specs.SeatViews.{step_decisions}
use Rattle.shfl_arena.specs.ValueMoves.{writes}
use Rattle.shfl_arena.specs.SeatModels.{SeatModel}
use Rattle.shfl_arena.specs.SeatSteps.{holds_then, TakesStep, as_refused, WinsAttempt, LosesAttempt, TriesOnce}

-- a lock that isn't held is no more in the list for being taken out
without-none : (l : ℕ) (h : List (ℕ × Mode)) → mode_held l h ≡ None → without_lock l h ≡ h
without-none l [] e = refl
without-none l (x ∷ xs) e = by (x.0 == l) (λ h. without-none l xs h) e
  where
    by : (b : Bool) → (mode_held l xs ≡ None → without_lock l xs ≡ xs) → cond b (Some x.1) (mode_held l xs) ≡ None → cond b (without_lock l xs) (x ∷ without_lock l xs) ≡ x ∷ xs
    by true rest e = absurd (cc)
    by false rest e = ap (λ z. x ∷ z) (rest e)

-- a reader that must take its count back
abbrev counting : ℕ → ℕ → PassState
counting k n = record { phase = TryUncount; reg = record (blank k) { mode = Read; saw = n }; nap = Awake }

held-so : (mode : Mode) (k n : ℕ) → is_held (attempted mode (blank k) n).phase ≡ true → attempted mode (blank k) n ≡ resting k mode
held-so Write k n h = by (n == 0) h
  where
    by : (b : Bool) → is_held (cond b (resting k Write) (as_refused k Write n)).phase ≡ true → cond b (resting k Write) (as_refused k Write n) ≡ resting k Write
    by true h = refl
    by false h = absurd (cc)
held-so Read k n h = by (held_of n || closed_of n) h
  where
    by : (b : Bool) → is_held (cond b (counting k n) (resting k Read)).phase ≡ true → cond b (counting k n) (resting k Read) ≡ resting k Read
    by true h = absurd (cc)
    by false h = refl

away-write : (k i : ℕ) (b : Bool) → (i == 0) ≡ b → is_held (cond b (resting k Write) (as_refused k Write i)).phase ≡ false → (i ≢ 0) × (cond b (resting k Write) (as_refused k Write i) ≡ as_refused k Write i)
away-write k i true e h = absurd (cc)
away-write k i false e h = ((λ z. let x : false ≡ true = sym e ∙ eq-eqb i 0 z in cc), refl)

away-read : (k n : ℕ) (b : Bool) → is_held (cond b (counting k n) (resting k Read)).phase ≡ false → (b ≡ true) × (cond b (counting k n) (resting k Read) ≡ counting k n)
away-read k n true h = (refl, refl)
away-read k n false h = absurd (cc)

module _ {X : Type 0} (old mid : SeatModel X) (lock n : ℕ) (free : mode_held lock old.holds ≡ None) where
  abbrev k : ℕ
  k = old.own.reg.me

  pub took : (mode : Mode) → TriesOnce {X = X} lock mode n old mid → is_held mid.own.phase ≡ true → WinsAttempt {X = X} lock mode old mid
  took mode t h = record { after = t.after ∙ (λ j. record old { lock = lock; own = w j; holds = taken j; steps_taken = old.steps_taken + 1; values = mid.values }); value = t.value }
    where
      w : attempted mode (blank k) n ≡ resting k mode
      w = held-so mode k n (ap (λ (z : SeatModel X). is_held z.own.phase) (sym t.after) ∙ h)

      taken : holds_then lock (attempted mode (blank k) n) old.holds ≡ (lock, mode) ∷ old.holds
      taken = ap (λ q. holds_then lock q old.holds) w ∙ ap (λ z. (lock, mode) ∷ z) (without-none lock old.holds free)

  pub refused : (mode : Mode) → TriesOnce {X = X} lock mode n old mid → is_held mid.own.phase ≡ false → (went : Bool) (new : SeatModel X) → went ≡ moving mid.own → (went ≡ false → new ≡ mid)
      → (went ≡ true → TakesStep {X = X} mid false new) → LosesAttempt {X = X} lock mode n old new
  refused Write t h went new is still step = let w : mid.own ≡ attempted Write (blank k) n = ap (λ (z : SeatModel X). z.own) t.after in
      let a = away-write k n (n == 0) refl (sym (ap (λ (q : PassState). is_held q.phase) w) ∙ h) in
      let stay : mid.values ≡ old.values = t.value.stays (sym (ap writes (w ∙ a.1))) in
      let holds : holds_then lock (attempted Write (blank k) n) old.holds ≡ old.holds = ap (λ q. holds_then lock q old.holds) a.1 ∙ without-none lock old.holds free in record {
        refused = a.0;
        after = still (is ∙ ap moving (w ∙ a.1)) ∙ (t.after ∙ (λ j. record old { lock = lock; own = a.1 j; holds = holds j; steps_taken = old.steps_taken + 1; values = stay j }));
      }
  refused Read t h went new is still step = let w : mid.own ≡ attempted Read (blank k) n = ap (λ (z : SeatModel X). z.own) t.after in
      let a = away-read k n (held_of n || closed_of n) (sym (ap (λ (q : PassState). is_held q.phase) w) ∙ h) in
      let at : mid.own ≡ counting k n = w ∙ a.1 in
      let g = step (is ∙ ap moving at) in
      let done : take mid.arena.rules mid.own.reg.me mid.own g.found false ≡ as_refused k Read n = (λ j. take mid.arena.rules (at j).reg.me (at j) g.found false) in
      let end : new.own ≡ as_refused k Read n = ap (λ (z : SeatModel X). z.own) g.row ∙ done in
      let first : mid.values ≡ old.values = t.value.stays (sym (ap writes at)) in
      let second : new.values ≡ mid.values = g.value.stays (ap writes at ∙ sym (ap writes end)) in
      let waits : mid.holds ≡ old.holds = ap (λ (z : SeatModel X). z.holds) t.after ∙ ap (λ q. holds_then lock q old.holds) a.1 in
      let place : mid.lock ≡ lock = ap (λ (z : SeatModel X). z.lock) t.after in
      let left : holds_then mid.lock (take mid.arena.rules mid.own.reg.me mid.own g.found false) mid.holds ≡ old.holds = (λ j. holds_then (place j) (done j) (waits j)) ∙ without-none lock old.holds free in
      let two : mid.steps_taken + 1 ≡ old.steps_taken + 2 = (let l = ap (λ (z : SeatModel X). z.steps_taken) t.after in omega arith) in record {
        refused = a.0;
        after = g.row ∙ (λ j. record {
          arena = (t.after j).arena;
          lock = place j;
          own = done j;
          holds = left j;
          steps_taken = two j;
          decisions = ((λ i. mid.decisions ++ step_decisions mid.arena.rules (at i) false) ∙ (append-nil mid.decisions ∙ ap (λ (z : SeatModel X). z.decisions) t.after)) j;
          values = (second ∙ first) j;
        });
      }
