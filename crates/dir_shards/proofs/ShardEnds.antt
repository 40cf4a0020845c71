-- What a sharded directory ends with.
use Rattle.std.proofs.Common.{◌≡◌, ℕ, ◌+◌, ◌-◌, ◌<◌, List, [], ◌∷◌, ◌++◌, All, map, reverse, length, Some, slice_get, refl, sym, ap, ◌∙◌, subst, arith}
use Rattle.std.specs.Option.{option_map}
use Rattle.std.proofs.lemmas.List.{length-map, length-reverse, map-append, reverse-append, reverse-reverse, get_or-reverse}
use Rattle.std.proofs.lemmas.Option.{same_Some, slice_get-map}
use Rattle.atomic_table.specs.Seated.{TableId}
use Rattle.shfl_table.specs.PassModel.{BoardModel}
use Rattle.shared_journal.specs.Entries.{StartsWith}
use Rattle.shard_rows.specs.Replay.{DirEntry}
use Rattle.shard_rows.specs.Values.{JournalValue, ShardValue}
use Rattle.dir_shards.specs.KeptShards.{KeptShardModel, state_of, lock_state}
use Rattle.dir_shards.specs.ShardPasses.{ShardPassModel}
use Rattle.dir_shards.specs.ShardedDirs.{IsLockOf}
use Rattle.dir_shards.specs.Closings.{AreInPlace, shard_of, without_locks}
use Rattle.dir_shards.proofs.Committing.{up_to_start}
use Rattle.dir_shards.proofs.LockPasses.{state_tells}
use Rattle.dir_shards.proofs.Places.{got_map, all_at, all_got}

map-reverse : {A B : Type 0} (f : A → B) (xs : List A) → map f (reverse xs) ≡ reverse (map f xs)
map-reverse f [] = refl
map-reverse f (x ∷ xs) =
    ap (map f) (reverse-append (x ∷ []) xs) ∙ (map-append f (reverse xs) (x ∷ []) ∙ (ap (λ l. l ++ f x ∷ []) (map-reverse f xs) ∙ sym (reverse-append (f x ∷ []) (map f xs))))

all_reversed : {A : Type 0} (P : A → Type 0) (xs : List A) → All P xs → All P (reverse xs)
all_reversed P xs all k d within =
    let long = length-reverse xs in
    let inside : k < length xs = omega arith in
    subst P (sym (get_or-reverse xs k d inside)) (all (length xs - 1 - k) d (omega arith))

-- passes that are the same but for their locks
pub same_but_locks : (old new : List ShardPassModel) → map without_locks new ≡ map without_locks old → (k : ℕ) (p : ShardPassModel) → slice_get new k ≡ Some p
    → (q : ShardPassModel) × (slice_get old k ≡ Some q) × (without_locks p ≡ without_locks q)
same_but_locks old new same k p at =
    got_map without_locks old k (without_locks p) (ap (λ l. slice_get l k) (sym same) ∙ (slice_get-map without_locks new k ∙ ap (option_map without_locks) at))

module _ (table : TableId) (room count : ℕ) (boards : List BoardModel) (kept : List KeptShardModel)
    (each : (dir : ℕ) (lock : BoardModel) → slice_get boards dir ≡ Some lock → IsLockOf table room count dir lock)
    (is : map state_of kept ≡ reverse (map (λ b. b.initial_state) boards)) where
  -- what lay behind the locks, in their order
  in_order : map state_of (reverse kept) ≡ map (λ b. b.initial_state) boards
  in_order = map-reverse state_of kept ∙ (ap reverse is ∙ reverse-reverse (map (λ (b : BoardModel). b.initial_state) boards))

  pub as_many : length (reverse kept) ≡ length boards
  as_many = let long = ap length in_order in let l = length-map (reverse kept) state_of in let m = length-map boards (λ (b : BoardModel). b.initial_state) in omega arith

  pub placed : (dir : ℕ) (x : KeptShardModel) → slice_get (reverse kept) dir ≡ Some x → (x.table ≡ table) × (x.room ≡ room) × (x.dir ≡ dir)
  placed dir x at =
      let b = got_map (λ (b : BoardModel). b.initial_state) boards dir (state_of x) (ap (λ l. slice_get l dir) (sym in_order) ∙ (slice_get-map state_of (reverse kept) dir ∙ ap (option_map state_of) at)) in
      state_tells x.table table x.room room x.dir dir (b.2 ∙ (each dir b.0 b.1).state)

  pub all_of_table : All (λ x. x.table ≡ table) kept
  all_of_table = subst (All (λ (x : KeptShardModel). x.table ≡ table)) (reverse-reverse kept)
      (all_reversed (λ (x : KeptShardModel). x.table ≡ table) (reverse kept) (all_got (λ (x : KeptShardModel). x.table ≡ table) (reverse kept) (λ k x at. (placed k x at).0)))

  -- the names behind the locks are those of the directories in order
  pub in_place : (journal : JournalValue) (shards : List ShardValue) → journal.room ≡ room → All (λ x. StartsWith journal.entries x.list) kept → shards ≡ map shard_of (reverse kept)
      → AreInPlace journal shards
  in_place journal shards room_is begins are =
      let found = λ (place : ℕ) (s : ShardValue) (at : slice_get shards place ≡ Some s). got_map shard_of (reverse kept) place s (ap (λ l. slice_get l place) (sym are) ∙ at) in
      record {
        dir = λ place s at. let f = found place s at in ap (λ (z : ShardValue). z.dir) f.2 ∙ (placed place f.0 f.1).2;
        room = λ place s at. let f = found place s at in ap (λ (z : ShardValue). z.room) f.2 ∙ ((placed place f.0 f.1).1 ∙ sym room_is);
        up_to = λ place s at. let f = found place s at in
            up_to_start journal.entries f.0.list f.0.room f.0.dir s
            (all_at (λ (x : KeptShardModel). StartsWith journal.entries x.list) (reverse kept) place f.0 (all_reversed (λ (x : KeptShardModel). StartsWith journal.entries x.list) kept begins) f.1) f.2;
      }
