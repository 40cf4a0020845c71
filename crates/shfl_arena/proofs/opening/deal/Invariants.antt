use Rattle.std.proofs.Common.{◌≡◌, ℕ, ◌+◌, ◌<◌, ◌≤◌, [], vec_len, vec_capacity, slice_get, Some}
use Rattle.shfl_arena.specs.SeatModels.{fresh_seat}
use Rattle.shfl_arena.specs.SeatViews.{new_seat}
use Rattle.shfl_arena.proofs.opening.deal.Given as goal

abbrev pub invariant-loop-k : goal.invariant-loop-k
invariant-loop-k g l =
    (vec_len l.seats + 1 ≡ l.k) × (l.threads ≤ vec_capacity l.seats)
    × (l.seat.table_id ≡ l.shared.table_id) × (l.seat.me ≡ (new_seat (vec_len l.seats), []))
    × ((i : ℕ) → i < vec_len l.seats → slice_get l.seats.items i ≡ Some (fresh_seat (record { table = l.shared.table_id; rules = l.rules; shape = l.shape }) i))
