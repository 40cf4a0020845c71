use Rattle.std.proofs.Common.{◌≡◌, ◌≤◌, ◌+◌, ◌++◌, All, map, length, reverse, vec_len, vec_capacity}
use Rattle.shfl_table.specs.PassModel.{BoardModel}
use Rattle.dir_shards.specs.KeptShards.{state_of}
use Rattle.dir_shards.specs.ShardPasses.{ShardPassModel, AreAll}
use Rattle.dir_shards.specs.Closings.{without_locks}
use Rattle.dir_shards.proofs.LockRuns.{AskedTheSame, HaveRuns}
use Rattle.dir_shards.proofs.lock_closing.close_locks.Given as goal

abbrev pub invariant-loop-board : goal.invariant-loop-board
invariant-loop-board l = record {
  locks : All (λ (p : ShardPassModel). p.locks ≡ map (λ (b : BoardModel). b.id) l.boards.items) l.passes;
  boards : All (λ (b : BoardModel). (b.id.table.slots ≡ 1) × AreAll b.count l.fn.passes) l.boards.items;
  passes : map without_locks l.passes ≡ map without_locks l.fn.passes;
  kept : reverse (map (λ (b : BoardModel). b.initial_state) l.fn.boards.items) ≡ map state_of l.kept.items ++ reverse (map (λ (b : BoardModel). b.initial_state) l.boards.items);
  asked : AskedTheSame (length l.boards.items) l.fn.passes l.passes;
  runs : HaveRuns l.fn.boards.items l.boards.items l.fn.passes;
  reserved : vec_len l.boards + vec_len l.kept ≤ vec_capacity l.kept;
}

abbrev pub decreases-loop-board : goal.decreases-loop-board
decreases-loop-board l = vec_len l.boards
