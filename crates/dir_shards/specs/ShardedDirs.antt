-- What a sharded directory keeps.
use Rattle.std.specs.Prelude.{◌≡◌, ℕ, ◌≤◌, List, [], ◌∷◌, length, slice_get, slice_index, Some}
use Rattle.atomic_table.specs.Seated.{TableId}
use Rattle.dir_table.specs.declared.calls.DirRow.{DirRow}
use Rattle.shard_rows.specs.Values.{ShardValue}
use Rattle.shfl_table.specs.PassModel.{BoardModel}
use Rattle.shared_journal.specs.Models.{TableModel}
use Rattle.dir_shards.specs.KeptShards.{KeptShardModel, lock_state}
use Rattle.dir_shards.specs.ShardPasses.{ShardPassModel, with_locks}

-- the lock of this directory, for so many passes, with the directory's names behind it
pub record IsLockOf (table : TableId) (room count dir : ℕ) (lock : BoardModel) : Type 0 where
  pub one : lock.id.table.slots ≡ 1
  pub count_is : lock.count ≡ count
  pub state : lock.initial_state ≡ lock_state table room dir

pub record ShardedInvariant (locks : List BoardModel) (table : TableModel) (kept : List KeptShardModel) (shards : List ShardValue) (rows : List DirRow)
    (kept_room shard_room row_room : ℕ) : Type 0 where
  pub count : length locks ≡ 64
  pub each : (dir : ℕ) (lock : BoardModel) → slice_get locks dir ≡ Some lock
      → IsLockOf table.id (slice_index table.opening 0) (length table.allowed) dir lock
  -- there is room for what the closing gives
  pub no_kept : kept ≡ []
  pub kept_fits : 64 ≤ kept_room
  pub no_shards : shards ≡ []
  pub shards_fit : 64 ≤ shard_room
  pub no_rows : rows ≡ []
  pub rows_fit : slice_index table.opening 1 ≤ row_room

-- the pass of this number, with no lock yet
pub record IsFirst (table : TableId) (room number : ℕ) (p : ShardPassModel) : Type 0 where
  pub journal : p.journal ≡ table
  pub room_is : p.room ≡ room
  pub number_is : p.number ≡ number
  pub none : p ≡ with_locks [] p
