use Rattle.std.proofs.Common.{rules}
use Rattle.shfl_c.proofs.passes.shfl_step.Goals as goal

pub returns-clause-row : goal.returns-clause-row
returns-clause-row g c = λ moved. (_, c.new.ensures, search rules)
