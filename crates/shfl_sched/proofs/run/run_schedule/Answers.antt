use Rattle.std.proofs.Common.{◌+◌, length, ap, arith}
use Rattle.shfl_sched.specs.Schedules.{ScheduleModel}
use Rattle.shfl_sched.proofs.RunSteps.{opening_passes, opening_marks}
use Rattle.shfl_sched.proofs.run.run_schedule.Goals as goal

pub show-requires : goal.show-requires
show-requires g c =
    let s = c.args.schedule.now in
    let marks = opening_marks c.in_ok-state.state _ c.in_ok-state.ensures in
    let passes = opening_passes s (g.B.Board.meaning c.args.board.now) c.requires.opened in
    let view = ap (λ (x : ScheduleModel). length x.passes) c.schedule.view_is in
    record { room = omega (arith, marks, passes, view) }
