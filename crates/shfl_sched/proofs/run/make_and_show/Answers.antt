use Rattle.std.proofs.Common.{◌<◌, length, sym, ap, ◌∙◌, arith}
use Rattle.shfl_core.specs.Runner.{Lock}
use Rattle.shfl_core.specs.ShownLine.{shown_line}
use Rattle.shfl_sched.specs.Run.{setup_of, choice_at}
use Rattle.shfl_sched.proofs.RunSteps.{marks_of}
use Rattle.shfl_sched.proofs.Unmoved.{unmoved, refused}
use Rattle.shfl_sched.proofs.run.make_and_show.Goals as goal
use Rattle.shfl_sched.proofs.run.make_and_show.Goals.{else-admitted-via-then-admitted+else-is_step, else-admitted-via-else-admitted}

pub show-requires : goal.show-requires
show-requires g c = record { room = marks_of c.args.state.now (g.B.Board.meaning c.args.board.now).world c.requires.shown ∙ c.requires.passes ∙ sym c.make-admitted.ensures.passes }

pub returns-else-admitted-clause-shown : goal.returns-else-admitted-clause-shown
returns-else-admitted-clause-shown g c =
    let a = g.B.Board.meaning c.args.board.now in
    let e = c.args.event in
    let choice = choice_at (setup_of c.args.schedule.now) a.world e.pass in
    let inside : e.pass < length a.world.passes = omega (arith, c.requires.event.pass, c.requires.passes) in
    let made = ap (λ (l : Lock). shown_line l.world) (sym c.make-admitted.ensures.after) in
    elim c.else-admitted.branch [
      | else-admitted-via-then-admitted+else-is_step w ↦ c.requires.shown ∙ unmoved a e choice inside (sym w.is_step.ensures ∙ w.if-is_step.false) ∙ made
      | else-admitted-via-else-admitted w ↦ c.requires.shown ∙ refused a e choice inside (sym c.make-admitted.ensures.answer ∙ w.if-admitted.false) ∙ made
    ]
