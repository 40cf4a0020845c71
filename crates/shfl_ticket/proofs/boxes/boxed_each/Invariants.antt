use Rattle.std.proofs.Common.{◌≡◌, ◌≤◌, map, vec_capacity, vec_len}
use Rattle.shfl_ticket.proofs.boxes.boxed_each.Given as goal

abbrev pub invariant-loop-value : goal.invariant-loop-value
invariant-loop-value g l =
    (goal.iterator-loop-value g).can_next l.value-iterator
    × (goal.iterator-loop-value g).is_finite l.value-iterator
    × (map (λ b. b.value) l.boxes.items ≡ l.yielded) × (vec_len l.fn.values ≤ vec_capacity l.boxes)
