use Rattle.std.proofs.Common.{◌≡◌, ◌≤◌, ◌++◌, length, drop}
use Rattle.std.specs.Vec.{vec_capacity}
use Rattle.shard_rows.specs.Tables.{rows_from, rows_of}
use Rattle.shard_rows.proofs.table.NumberTable.push_rows.Given as goal

abbrev pub invariant-loop-place : goal.invariant-loop-place
invariant-loop-place l =
    (l.rows.items ++ rows_from l.fn.dir l.place (drop l.place l.fn.self.numbers) ≡ l.fn.rows.items ++ rows_of l.fn.dir l.fn.self.numbers)
    × (vec_capacity l.rows ≡ vec_capacity l.fn.rows)
