-- How a sharded directory ends.
use Rattle.std.specs.Prelude.{◌≡◌, ℕ, List, [], ◌∷◌, ◌++◌, All, length, Some, slice_get}
use Rattle.shfl_table.specs.declared.view.Part.{Part}
use Rattle.shfl_table.specs.PassModel.{BoardId}
use Rattle.shfl_table.specs.ThreadRuns.{RanUntilClosed}
use Rattle.shared_journal.specs.Entries.{IsAmong, StartsWith}
use Rattle.shared_journal.specs.declared.view.Own.{Own}
use Rattle.shard_rows.specs.Replay.{DirEntry}
use Rattle.shard_rows.specs.Values.{JournalValue, ShardValue, IsUpTo}
use Rattle.dir_shards.specs.Commits.{calls_by}
use Rattle.dir_shards.specs.KeptShards.{KeptShardModel, shard_after}
use Rattle.dir_shards.specs.ShardPasses.{ShardPassModel, ShardedDirModel, asked_at}

-- the pass's last lock is this one
abbrev pub EndsOn : BoardId → ShardPassModel → Type 0
EndsOn lock p = (rest : List BoardId) × (p.locks ≡ rest ++ lock ∷ [])

-- the pass without its locks
abbrev pub without_locks : ShardPassModel → ShardPassModel
without_locks p = record p { locks = []; decisions = [] }

-- the names behind a lock
abbrev pub shard_of : KeptShardModel → ShardValue
shard_of k = shard_after k.room k.dir k.list

-- among what was given back are the entries that this pass saw last, and its number with those of its own
pub record GaveBack (lists : List (List DirEntry)) (numbers : List (Own DirEntry)) (p : ShardPassModel) : Type 0 where
  pub seen : IsAmong p.seen lists
  pub own : (o : Own DirEntry) × IsAmong o numbers × (o.number ≡ p.number) × (o.entries ≡ calls_by p.number p.seen)

-- the journal begins with what this pass saw last, and has no more of its entries
pub record HasSeen (journal : List DirEntry) (p : ShardPassModel) : Type 0 where
  pub begins : StartsWith journal p.seen
  pub own : calls_by p.number journal ≡ calls_by p.number p.seen

-- names of each directory in order, each up to some of the journal's entries
pub record AreInPlace (journal : JournalValue) (shards : List ShardValue) : Type 0 where
  pub dir : (place : ℕ) (s : ShardValue) → slice_get shards place ≡ Some s → s.dir ≡ place
  pub room : (place : ℕ) (s : ShardValue) → slice_get shards place ≡ Some s → s.room ≡ journal.room
  pub up_to : (place : ℕ) (s : ShardValue) → slice_get shards place ≡ Some s → IsUpTo journal.entries s

-- what a pass did at the lock of this directory, in so many steps, which found these words, and with so many attempts
abbrev pub part_at : ℕ → ℕ → List ℕ → ℕ → ShardPassModel → Part
part_at dir steps_taken found attempts p = record { number = p.number; steps_taken = steps_taken; found = found; attempts = attempts; decisions = asked_at p dir }

-- one of these is what the pass did at the lock of this directory
abbrev pub HasPart : ℕ → List Part → ShardPassModel → Type 0
HasPart dir parts p = (x : Part) × IsAmong x parts × (x ≡ part_at dir x.steps_taken x.found x.attempts p)

-- all that was done to the lock of this directory, for so many passes, is a run of the model, in which each of these asked what it tells;
-- no history is kept behind the lock
pub record HasRunAt (dir count : ℕ) (lock : BoardId) (passes : List ShardPassModel) : Type 0 where
  pub parts : List Part
  pub told : All (HasPart dir parts) passes
  pub run : RanUntilClosed lock.rules lock.attrs count parts []

-- so it is at each lock
abbrev pub HasRunOfEach : ShardedDirModel → List ShardPassModel → Type 0
HasRunOfEach d passes = (dir : ℕ) (lock : BoardId) → slice_get d.locks dir ≡ Some lock → HasRunAt dir (length d.allowed) lock passes
