use Rattle.std.proofs.Common.{sym, subst}
use Rattle.shfl_line.specs.Line.{Line, IsWellFormed}
use Rattle.shfl_core.specs.ShownLine.{shown_line}
use Rattle.shfl_core.specs.Runner.{Lock}
use Rattle.shfl_world.proofs.Facts.{well-formed}
use Rattle.shfl_world.proofs.board.WorldBoard.show.Goals as goal

pub returns-clause-well_formed : goal.returns-clause-well_formed
returns-clause-well_formed g c = subst (λ (s : Line). IsWellFormed c.args.self.now.rules.limit s) (sym c.show.ensures)
    (subst (λ (l : Lock). IsWellFormed l.rules.limit (shown_line c.self.inside.plain.world)) c.self.view_is (well-formed c.self.inside.plain c.self.invariant.lawful))
