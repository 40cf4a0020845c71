use Rattle.std.proofs.Common.{sym, ◌∙◌}
use Rattle.shfl_arena.proofs.Attempts.{took, refused}
use Rattle.shfl_arena.proofs.seats.ArenaSeat.attempt_from.Goals as goal

pub returns-then-held-clause-ok : goal.returns-then-held-clause-ok
returns-then-held-clause-ok g c = took c.args.self.now c.attempt_first-found.new.self c.args.lock c.attempt_first-found.result c.requires.free c.args.mode c.attempt_first-found.ensures (sym c.held.ensures ∙ c.if-held.true)

pub returns-clause-err : goal.returns-clause-err
returns-clause-err g c = refused c.args.self.now c.attempt_first-found.new.self c.args.lock c.attempt_first-found.result c.requires.free c.args.mode c.attempt_first-found.ensures (sym c.held.ensures ∙ c.if-held.false) c.step.result c.step.new.self c.step.ensures.moving c.step.ensures.still c.step.ensures.row
