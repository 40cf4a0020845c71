use Rattle.std.proofs.Common.{◌≡◌, ℕ, ◌<◌, ◌≤◌, length, vec_len, vec_capacity, slice_get, Some}
use Rattle.shfl_seats.specs.Tickets.{fresh_ticket}
use Rattle.shfl_seats.proofs.opening.deal.Given as goal

abbrev pub invariant-loop-seat : goal.invariant-loop-seat
invariant-loop-seat l =
    (goal.iterator-loop-seat).can_next l.seat-iterator
    × (goal.iterator-loop-seat).is_finite l.seat-iterator
    × (l.k ≡ length l.yielded) × (vec_len l.tickets ≡ l.k) × (vec_len l.fn.seats ≤ vec_capacity l.tickets)
    × ((i : ℕ) → i < vec_len l.tickets → slice_get l.tickets.items i ≡ Some (fresh_ticket l.share.value.arena.id i))
