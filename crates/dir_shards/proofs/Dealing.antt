-- Passes that are given their locks, one lock after another.
use Rattle.std.proofs.Common.{◌≡◌, ◌≢◌, ◌⊎◌, inl, inr, ℕ, ◌+◌, ◌<◌, ◌≤◌, List, [], ◌∷◌, ◌++◌, map, set, length, get_or, Some, slice_get, slice_index, refl, sym, ap, ◌∙◌, subst, arith, length-append}
use Rattle.std.proofs.lemmas.Option.{same_Some, slice_get_within, slice_get-get_or}
use Rattle.std.proofs.lemmas.List.{length-map, length-set, map-append}
use native.Mathlib.Decide.{dec_le}
use Rattle.atomic_table.specs.Seated.{TableId}
use Rattle.shfl_table.specs.declared.view.Decision.{Decision}
use Rattle.shfl_table.specs.PassModel.{BoardId, BoardModel, fresh_pass}
use Rattle.shared_journal.specs.Models.{PassModel}
use Rattle.shard_rows.specs.Replay.{DirEntry}
use Rattle.dir_shards.specs.KeptShards.{lock_state}
use Rattle.dir_shards.specs.Locks.{LockPass}
use Rattle.dir_shards.specs.ShardPasses.{ShardPassModel, ShardPassInvariant, IsLockPass, MayAdd, with_lock, with_locks}
use Rattle.dir_shards.specs.ShardedDirs.{IsLockOf, IsFirst}
use Rattle.dir_shards.proofs.Places.{got_snoc, got_last, got_front, got_here, got_other, got_map, mapped}

-- a lock more is that of the next place
pub kept_more : (passes : List LockPass) (journal : PassModel DirEntry) (lock : LockPass) → ShardPassInvariant passes journal
    → IsLockPass journal.table (slice_index journal.opening 0) journal.number (length passes) lock → ShardPassInvariant (passes ++ lock ∷ []) journal
kept_more passes journal lock kept is_lock = record {
  home = kept.home;
  each = λ dir p is. elim (got_snoc passes lock dir p is) [
    | inl inside ↦ kept.each dir p inside.1
    | inr last ↦ subst (λ (z : ℕ × LockPass). IsLockPass journal.table (slice_index journal.opening 0) journal.number z.0 z.1) (λ i. (sym last.0 i, last.1 i)) is_lock
  ];
}

-- of the passes `before`, those from this place on have the lock
pub record AreDealt (lock : BoardId) (place : ℕ) (before now : List ShardPassModel) : Type 0 where
  pub long : length now ≡ length before
  pub ahead : (k : ℕ) (p : ShardPassModel) → k < place → slice_get before k ≡ Some p → slice_get now k ≡ Some p
  pub behind : (k : ℕ) (p : ShardPassModel) → place ≤ k → slice_get before k ≡ Some p → slice_get now k ≡ Some (with_lock lock p)

pub dealt_more : (lock : BoardId) (place : ℕ) (before now : List ShardPassModel) (old new : ShardPassModel) → AreDealt lock (place + 1) before now → slice_get before place ≡ Some old
    → new ≡ with_lock lock old → AreDealt lock place before (set now place new)
dealt_more lock place before now old new dealt was is = record {
  long = length-set now place new ∙ dealt.long;
  ahead = λ k p below at. got_other now place k new (λ e. absurd (omega arith)) ∙ dealt.ahead k p (omega arith) at;
  behind = λ k p above at. elim (dec_le k place) [
    | yes low ↦
        let here : k ≡ place = omega arith in
        let same : p ≡ old = same_Some p old (sym at ∙ ap (slice_get before) here ∙ was) in
        ap (slice_get (set now place new)) here ∙ (got_here now place new (let within = slice_get_within before place old was in let l = dealt.long in omega arith) ∙ ap Some (is ∙ ap (with_lock lock) (sym same)))
    | no high ↦ got_other now place k new (λ e. absurd (omega arith)) ∙ dealt.behind k p (omega arith) at
  ];
}

pub all_dealt : (lock : BoardId) (before now : List ShardPassModel) → AreDealt lock 0 before now → now ≡ map (with_lock lock) before
all_dealt lock before now dealt = mapped (with_lock lock) now before dealt.long (λ k p is. dealt.behind k p (omega arith) is)

-- the pass that is next, with its lock
pub next_may : (lock : BoardId) (place : ℕ) (before now : List ShardPassModel) (p : ShardPassModel) (q : LockPass) → AreDealt lock (place + 1) before now → slice_get now place ≡ Some p → place < length before
    → ((old : ShardPassModel) → slice_get before place ≡ Some old → MayAdd old q) → (slice_get before place ≡ Some p) × MayAdd p q
next_may lock place before now p q dealt is within may =
    let was = slice_get-get_or before place p within in
    let same : get_or before place p ≡ p = same_Some _ p (sym (dealt.ahead place _ (omega arith) was) ∙ is) in
    (was ∙ ap Some same, subst (λ z. MayAdd z q) same (may _ was))

-- one lock after others
pub map_locks : (locks : List BoardId) (lock : BoardId) (passes : List ShardPassModel) → map (with_lock lock) (map (with_locks locks) passes) ≡ map (with_locks (locks ++ lock ∷ [])) passes
map_locks locks lock [] = refl
map_locks locks lock (p ∷ ps) =
    let more = map-append {B = List Decision} (λ (l : BoardId). []) locks (lock ∷ []) in
    λ i. record p { locks = locks ++ lock ∷ []; decisions = sym more i } ∷ map_locks locks lock ps i

-- a pass of a new lock is the next one of a pass that has these
pub may_add : (table : TableId) (room dir k count : ℕ) (locks : List BoardId) (lock : BoardModel) (first : ShardPassModel) → IsFirst table room k first → length locks ≡ dir
    → IsLockOf table room count dir lock → MayAdd (with_locks locks first) (fresh_pass (lock_state table room dir) lock.id k)
may_add table room dir k count locks lock first is long of = record {
  is_lock = record {
    free = record { idle = refl; empty = refl; unseen = refl; one = of.one };
    number_is = sym is.number_is;
    state = λ i. lock_state (sym is.journal i) (sym is.room_is i) (sym long i);
  };
  asked = refl;
}
