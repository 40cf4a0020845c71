use Rattle.std.proofs.Common.{◌≡◌, ℕ, ◌+◌, ◌<◌, ◌≤◌, length, vec_len, vec_capacity, slice_get, slice_index, slice_index_or, Some}
use Rattle.rw_cell.specs.RwCells.{fresh, cell_on, no_attr}
use Rattle.rw_cell.proofs.opening.cell_passes.Given as goal

abbrev pub invariant-loop-pass : goal.invariant-loop-pass
invariant-loop-pass g l =
    (goal.iterator-loop-pass g).can_next l.pass-iterator
    × (goal.iterator-loop-pass g).is_finite l.pass-iterator
    × (l.k ≡ length l.yielded) × (vec_len l.all ≡ l.k) × (length l.calls ≤ vec_capacity l.all)
    × ((i : ℕ) → i < vec_len l.all → slice_get l.all.items i ≡ Some (fresh (cell_on l.board) i (slice_index l.calls i) (slice_index_or l.attrs i no_attr)))
