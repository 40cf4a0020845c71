use Rattle.std.proofs.Common.{◌≡◌, ℕ, ◌<◌, ◌≤◌, [], length, vec_len, vec_capacity, slice_get, slice_index, slice_index_or, Some}
use Rattle.dir_shards.specs.ShardPasses.{fresh_with, no_attr}
use Rattle.dir_shards.proofs.opening.first_passes.Given as goal

abbrev pub invariant-loop-journal : goal.invariant-loop-journal
invariant-loop-journal l =
    goal.iterator-loop-journal.can_next l.journal-iterator
    × goal.iterator-loop-journal.is_finite l.journal-iterator
    × (l.k ≡ length l.yielded) × (vec_len l.all ≡ l.k) × (length l.calls ≤ vec_capacity l.all)
    × ((i : ℕ) → i < vec_len l.all
    → slice_get l.all.items i ≡ Some (fresh_with [] l.table.id (slice_index l.table.opening 0) i (slice_index l.calls i) (slice_index_or l.attrs i no_attr)))
