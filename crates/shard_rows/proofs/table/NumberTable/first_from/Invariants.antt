use Rattle.std.proofs.Common.{◌≡◌, ℕ, ◌<◌, ◌≤◌, slice_index}
use Rattle.shard_rows.proofs.table.NumberTable.first_from.Given as goal

abbrev pub invariant-loop-place : goal.invariant-loop-place
invariant-loop-place l = (other : ℕ) → l.fn.name ≤ other → other < l.place → slice_index l.fn.self.numbers other ≡ 0
