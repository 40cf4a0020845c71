use Rattle.std.proofs.Common.{◌≡◌, ◌≤◌, [], ◌∷◌, map, vec_capacity, vec_len}
use Rattle.shfl_seats_c.specs.Opened.{tickets_of}
use Rattle.shfl_seats_c.proofs.opening.handles_of.Given as goal

abbrev pub invariant-loop-ticket : goal.invariant-loop-ticket
invariant-loop-ticket l =
    (goal.iterator-loop-ticket).can_next l.ticket-iterator
    × (goal.iterator-loop-ticket).is_finite l.ticket-iterator
    × (tickets_of l.handles.items ≡ map (λ b. b.value ∷ []) l.yielded) × (vec_len l.fn.tickets ≤ vec_capacity l.handles)
