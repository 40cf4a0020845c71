use Rattle.std.proofs.Common.{false}
use Rattle.shfl_arena.specs.SeatModels.{leaving}
use Rattle.shfl_arena.proofs.seats.ArenaSeat.leave.Given as goal

abbrev pub ghosts-leave_once : goal.ghosts-leave_once
ghosts-leave_once g a = record { terms = record { shape = a.shape; rules = a.rules; threads = a.shared.now.key.threads; lock = a.lock }; own = leaving a.seat.now.me.0.number a.mode; choice = false }
