use Rattle.std.proofs.Common.{◌≡◌, ℕ, ◌<◌, ◌≤◌, length, vec_len, vec_capacity, slice_get, slice_index, Some}
use Rattle.shfl_line.specs.Words.{attr_of}
use Rattle.shfl_ticket.specs.Tickets.{fresh_ticket}
use Rattle.shfl_ticket.proofs.opening.deal.Given as goal

abbrev pub invariant-loop-pass : goal.invariant-loop-pass
invariant-loop-pass l =
    (goal.iterator-loop-pass).can_next l.pass-iterator
    × (goal.iterator-loop-pass).is_finite l.pass-iterator
    × (l.k ≡ length l.yielded) × (vec_len l.tickets ≡ l.k) × (vec_len l.share.value.words.value ≤ vec_capacity l.tickets)
    × ((i : ℕ) → i < vec_len l.tickets → slice_get l.tickets.items i ≡ Some (fresh_ticket l.share.value.board.value.id i (attr_of (slice_index l.share.value.words.value.items i))))
