use Rattle.std.proofs.Common.{◌≡◌, ℕ, ◌+◌, ◌<◌, ◌≤◌, slice_index, length, List}
use Rattle.std.specs.Prelude.{max}
use Rattle.std.specs.Vec.{vec_capacity}
use Rattle.shard_rows.specs.Tables.{count_of}
use Rattle.shard_rows.proofs.table.reach.Given as goal

abbrev pub invariant-loop : goal.invariant-loop
invariant-loop l =
    (length l.numbers.items ≡ l.counter) × (l.counter ≤ max (length l.fn.numbers.items) (l.fn.place + 1)) × (vec_capacity l.numbers ≡ vec_capacity l.fn.numbers)
    × (count_of l.numbers.items ≡ count_of l.fn.numbers.items) × ((other : ℕ) → slice_index l.numbers.items other ≡ slice_index l.fn.numbers.items other)
