use Rattle.shfl_line.proofs.Decided.{admitted, tested}
use Rattle.shfl_line.proofs.EachStep.{of_passes_after, well_formed_after}
use Rattle.shfl_line.proofs.laws.laws_of_line_steps.Goals as goal

pub returns-clause-passes : goal.returns-clause-passes
returns-clause-passes c = λ limit passes s e _ of names admits _. of_passes_after limit passes s e of names admits

pub returns-clause-well_formed : goal.returns-clause-well_formed
returns-clause-well_formed c = λ limit passes s e positive of names admits fine. well_formed_after limit passes s e positive of names fine admits

pub returns-clause-decided : goal.returns-clause-decided
returns-clause-decided c = λ limit s e. (admitted limit s e, tested limit s e)
