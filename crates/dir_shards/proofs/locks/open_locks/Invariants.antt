use Rattle.std.proofs.Common.{◌≡◌, ◌≤◌, ℕ, map, length, Some, slice_get, vec_len, vec_capacity}
use Rattle.shfl_line.specs.Words.{attr_word}
use Rattle.shfl_line.specs.declared.events.Form.TheVariants.{Park}
use Rattle.shfl_table.specs.PassModel.{BoardModel}
use Rattle.dir_shards.specs.ShardPasses.{with_locks}
use Rattle.dir_shards.specs.ShardedDirs.{IsLockOf}
use Rattle.dir_shards.proofs.locks.open_locks.Given as goal

abbrev pub invariant-loop-dir : goal.invariant-loop-dir
invariant-loop-dir l = record {
  count : vec_len l.boards ≡ l.dir;
  room : 64 ≤ vec_capacity l.boards;
  known : l.known ≡ l.fn.known;
  locks : (dir : ℕ) (lock : BoardModel) → slice_get l.boards.items dir ≡ Some lock → IsLockOf l.table.id l.room (length l.attrs) dir lock;
  rules : (dir : ℕ) (lock : BoardModel) → slice_get l.boards.items dir ≡ Some lock → lock.id.rules ≡ record { limit = l.limit; form = Park };
  attrs : (dir : ℕ) (lock : BoardModel) → slice_get l.boards.items dir ≡ Some lock → lock.id.attrs ≡ map attr_word l.attrs;
  passes : l.all ≡ map (with_locks (map (λ b. b.id) l.boards.items)) l.fn.all;
}
