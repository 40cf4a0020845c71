use Rattle.std.proofs.Common.{◌≡◌, ◌≤◌, map, vec_capacity, vec_len, Some}
use Rattle.shfl_arena.proofs.opening.laid.Given as goal

abbrev pub invariant-loop-value : goal.invariant-loop-value
invariant-loop-value g l =
    (goal.iterator-loop-value g).can_next l.value-iterator
    × (goal.iterator-loop-value g).is_finite l.value-iterator
    × (l.slots.items ≡ map Some l.yielded) × (vec_len l.fn.values ≤ vec_capacity l.slots)
