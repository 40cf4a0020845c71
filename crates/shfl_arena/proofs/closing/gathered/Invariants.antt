use Rattle.std.proofs.Common.{◌≡◌, ◌+◌, ◌<◌, All, [], vec_len}
use Rattle.std.specs.Prelude.{None}
use Rattle.shfl_arena.specs.SeatModels.{IsNewAt}
use Rattle.shfl_arena.proofs.closing.gathered.Given as goal

abbrev pub invariant-loop-seat : goal.invariant-loop-seat
invariant-loop-seat g l =
    (l.desk.table_id ≡ l.fn.arena.id.table) × All (IsNewAt l.fn.arena.id) l.seats.items
    × (0 < l.desk.me.0.seats) × (l.desk.me.0.seats + vec_len l.seats ≡ vec_len l.fn.seats)
    × (l.desk.me.0.thread.at ≡ None) × (l.desk.me.0.thread.holds ≡ []) × (l.desk.me.1 ≡ [])

abbrev pub decreases-loop-seat : goal.decreases-loop-seat
decreases-loop-seat g l = vec_len l.seats
