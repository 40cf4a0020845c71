use Rattle.std.proofs.Common.{sym, arith}
use Rattle.shfl_sched.proofs.RunSteps.{marks_of}
use Rattle.shfl_sched.proofs.Shown.{holders_few, waiters_few}
use Rattle.shfl_sched.proofs.report.put_row.Goals as goal

pub overflow_cast-mark : goal.overflow_cast-mark
overflow_cast-mark g c =
    let shown = marks_of c.args.state.now (g.B.Board.meaning c.args.board.now).world c.requires.shown in
    rw c.mark.ensures (omega (arith, shown))

pub put_asleep-requires : goal.put_asleep-requires
put_asleep-requires g c =
    let shown = marks_of c.args.state.now (g.B.Board.meaning c.args.board.now).world c.requires.shown in
    rw (c.mark.ensures, c.word.ensures.unchanged) (record { passes = sym shown; few = omega (arith, shown, c.requires.few) })

pub put_state-requires-clause-holders : goal.put_state-requires-clause-holders
put_state-requires-clause-holders g c = holders_few c.args.state.now (g.B.Board.meaning c.args.board.now).world 64 c.requires.shown c.requires.few

pub put_state-requires-clause-waiters : goal.put_state-requires-clause-waiters
put_state-requires-clause-waiters g c = waiters_few c.args.state.now (g.B.Board.meaning c.args.board.now).world 64 c.requires.shown c.requires.few
