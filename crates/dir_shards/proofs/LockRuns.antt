-- What was done to the locks, which are closed one after another.
use Rattle.std.proofs.Common.{◌≡◌, ℕ, zero, suc, ◌+◌, ◌-◌, ◌<◌, ◌≤◌, List, [], ◌∷◌, ◌++◌, All, map, take, length, Some, slice_get, slice_index_or, refl, sym, ap, ◌∙◌, subst, arith, inl, inr, length-append, append_assoc, append-nil}
use Rattle.std.specs.Option.{option_map}
use Rattle.std.proofs.lemmas.Option.{same_Some, slice_get_within, slice_get-map}
use Rattle.std.proofs.lemmas.List.{length-map}
use native.Mathlib.Decide.{dec_le}
use Rattle.shfl_table.specs.declared.kept.Action.{Action}
use Rattle.shfl_table.specs.declared.view.Decision.{Decision}
use Rattle.shfl_table.specs.declared.view.Part.{Part}
use Rattle.shfl_table.specs.PassModel.{BoardModel, BoardId}
use Rattle.shfl_table.specs.Histories.{IsCurrent}
use Rattle.shfl_table.specs.Places.{Every}
use Rattle.shfl_table.specs.ThreadRuns.{RanUntilClosed}
use Rattle.dir_shards.specs.KeptShards.{KeptShardModel, state_of}
use Rattle.dir_shards.specs.Locks.{LockPass}
use Rattle.dir_shards.specs.ShardPasses.{ShardPassModel, asked_at, without_last}
use Rattle.dir_shards.specs.Closings.{part_at, HasPart, HasRunAt}
use Rattle.dir_shards.proofs.LockPasses.{decisions_of}
use Rattle.dir_shards.proofs.Places.{got_middle, all_got, all_at}

-- the last one's decisions are those of the last lock
pub last_decisions : (passes front : List LockPass) (p : LockPass) → passes ≡ front ++ p ∷ [] → slice_get passes (length front) ≡ Some p
    → slice_index_or (map (λ (q : LockPass). q.decisions) passes) (length (map (λ (q : LockPass). q.board) passes) - 1) [] ≡ p.decisions
last_decisions passes front p is at =
    let long = length-map passes (λ (q : LockPass). q.board) in let more = ap length is in let one = length-append front (p ∷ []) in
    let place : length (map (λ (q : LockPass). q.board) passes) - 1 ≡ length front = omega arith in
    ap (λ n. slice_index_or (map (λ (q : LockPass). q.decisions) passes) n []) place ∙ decisions_of passes (length front) p at

-- the passes below this place told what they did at their last lock
pub record HaveTold (place : ℕ) (before : List ShardPassModel) (parts : List Part) : Type 0 where
  pub asked : (k : ℕ) (p : ShardPassModel) → k < place → slice_get before k ≡ Some p → length p.decisions ≡ length p.locks
  pub each : (k : ℕ) (p : ShardPassModel) → k < place → slice_get before k ≡ Some p → HasPart (length p.locks - 1) parts p

pub none_told : (before : List ShardPassModel) → HaveTold 0 before []
none_told before = record { asked = λ k p below at. absurd (omega arith); each = λ k p below at. absurd (omega arith) }

pub told_more : (place : ℕ) (before : List ShardPassModel) (parts : List Part) (old : ShardPassModel) (x : Part) → HaveTold place before parts → slice_get before place ≡ Some old
    → length old.decisions ≡ length old.locks → x ≡ part_at (length old.locks - 1) x.steps_taken x.found x.attempts old → HaveTold (place + 1) before (x ∷ parts)
told_more place before parts old x told was asked is = record {
  asked = λ k p below at. elim (dec_le place k) [
    | yes high ↦
        let here : k ≡ place = omega arith in
        let same : old ≡ p = same_Some old p (sym was ∙ (ap (slice_get before) (sym here) ∙ at)) in
        subst (λ (z : ShardPassModel). length z.decisions ≡ length z.locks) same asked
    | no low ↦ told.asked k p (omega arith) at
  ];
  each = λ k p below at. elim (dec_le place k) [
    | yes high ↦
        let here : k ≡ place = omega arith in
        let same : old ≡ p = same_Some old p (sym was ∙ (ap (slice_get before) (sym here) ∙ at)) in
        subst (λ (z : ShardPassModel). HasPart (length z.locks - 1) (x ∷ parts) z) same (x, inl refl, is)
    | no low ↦ let t = told.each k p (omega arith) at in (t.0, inr t.1, t.2)
  ];
}

-- behind a lock is no history
pub no_history : (state : List ℕ) (total : List Action) (kept : List KeptShardModel) → 0 < length kept → Every (IsCurrent state_of (λ _. []) state total) kept → [] ≡ total
no_history state total [] some each = absurd (omega arith)
no_history state total (x ∷ xs) some each = each.0.1

-- once all have told it, the lock has its run
pub told_all : (place dir count : ℕ) (lock : BoardId) (before : List ShardPassModel) (parts : List Part) → length before ≤ place → HaveTold place before parts
    → All (λ p. length p.locks ≡ dir + 1) before → RanUntilClosed lock.rules lock.attrs count parts [] → HasRunAt dir count lock before
told_all place dir count lock before parts end told long ran = record {
  parts = parts;
  told = all_got (HasPart dir parts) before (λ k p at.
      let within = slice_get_within before k p at in
      let locks : length p.locks ≡ dir + 1 = all_at (λ (z : ShardPassModel). length z.locks ≡ dir + 1) before k p long at in
      let last : length p.locks - 1 ≡ dir = omega arith in
      subst (λ n. HasPart n parts p) last (told.each k p (omega arith) at));
  run = ran;
}

-- these passes are the same as before, and so is what their locks below this place asked
pub record AskedTheSame (place : ℕ) (before now : List ShardPassModel) : Type 0 where
  pub each : (k : ℕ) (p : ShardPassModel) → slice_get before k ≡ Some p
      → (q : ShardPassModel) × (slice_get now k ≡ Some q) × (q.number ≡ p.number) × ((dir : ℕ) → dir < place → asked_at q dir ≡ asked_at p dir)

pub asked_at-first : (place : ℕ) (before : List ShardPassModel) → AskedTheSame place before before
asked_at-first place before = record { each = λ k p at. (p, at, refl, λ dir below. refl) }

taken_at : (n : ℕ) (xs : List (List Decision)) (k : ℕ) → k < n → slice_index_or (take n xs) k [] ≡ slice_index_or xs k []
taken_at zero xs k below = absurd (omega arith)
taken_at (suc n) [] k below = refl
taken_at (suc n) (x ∷ xs) zero below = refl
taken_at (suc n) (x ∷ xs) (suc k) below = taken_at n xs k (omega arith)

-- so it is when they have lost the last one
pub asked_at-last : (place : ℕ) (before now : List ShardPassModel) → All (λ p. length p.decisions ≡ length p.locks) now → All (λ p. length p.locks ≡ place + 1) now
    → AskedTheSame (place + 1) before now → AskedTheSame place before (map without_last now)
asked_at-last place before now asked long same = record {
  each = λ k p at. let s = same.each k p at in let q = s.0 in
      let many : length q.decisions ≡ length q.locks = all_at (λ (z : ShardPassModel). length z.decisions ≡ length z.locks) now k q asked s.1 in
      let locks : length q.locks ≡ place + 1 = all_at (λ (z : ShardPassModel). length z.locks ≡ place + 1) now k q long s.1 in (
        without_last q,
        slice_get-map without_last now k ∙ ap (option_map without_last) s.1,
        s.2,
        λ dir below. taken_at (length q.decisions - 1) q.decisions dir (omega arith) ∙ s.3 dir (omega arith),
      );
}

-- what passes did at a lock, the same ones did before they lost others
pub run_before : (place dir count : ℕ) (lock : BoardId) (before now : List ShardPassModel) → AskedTheSame place before now → dir < place → HasRunAt dir count lock now → HasRunAt dir count lock before
run_before place dir count lock before now same below run = record {
  parts = run.parts;
  told = all_got (HasPart dir run.parts) before (λ k p at.
      let s = same.each k p at in let t = all_at (HasPart dir run.parts) now k s.0 run.told s.1 in let x = t.0 in
      let alike : part_at dir x.steps_taken x.found x.attempts s.0 ≡ part_at dir x.steps_taken x.found x.attempts p =
      (λ i. record { number = s.2 i; steps_taken = x.steps_taken; found = x.found; attempts = x.attempts; decisions = s.3 dir below i }) in
      (x, t.1, t.2 ∙ alike));
  run = run.run;
}

-- of these boards the ones behind `now` are closed, and each of them has its run
pub record HaveRuns (boards now : List BoardModel) (passes : List ShardPassModel) : Type 0 where
  pub rest : List BoardModel
  pub is : boards ≡ now ++ rest
  pub each : (dir : ℕ) (b : BoardModel) → length now ≤ dir → slice_get boards dir ≡ Some b → HasRunAt dir b.count b.id passes

pub runs_none : (boards : List BoardModel) (passes : List ShardPassModel) → HaveRuns boards boards passes
runs_none boards passes = record {
  rest = [];
  is = sym (append-nil boards);
  each = λ dir b above at. absurd (let within = slice_get_within boards dir b at in omega arith);
}

pub runs_more : (boards old front : List BoardModel) (board : BoardModel) (before : List ShardPassModel) → HaveRuns boards old before → old ≡ front ++ board ∷ []
    → HasRunAt (length front) board.count board.id before → HaveRuns boards front before
runs_more boards old front board before have items run =
    let split : boards ≡ front ++ (board ∷ have.rest) = have.is ∙ (ap (λ l. l ++ have.rest) items ∙ append_assoc front (board ∷ []) have.rest) in
    let long : length old ≡ length front + 1 = ap length items ∙ length-append front (board ∷ []) in
    record {
      rest = board ∷ have.rest;
      is = split;
      each = λ dir b above at. elim (dec_le (length old) dir) [
        | yes high ↦ have.each dir b high at
        | no low ↦
            let here : dir ≡ length front = omega arith in
            let same : board ≡ b = same_Some board b (sym (ap (λ l. slice_get l (length front)) split ∙ got_middle front board have.rest) ∙ (ap (slice_get boards) (sym here) ∙ at)) in
            subst (λ (z : ℕ × BoardModel). HasRunAt z.0 z.1.count z.1.id before) (λ i. (sym here i, same i)) run
      ];
    }
