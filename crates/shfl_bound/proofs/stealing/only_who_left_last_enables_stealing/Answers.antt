use Rattle.shfl_bound.proofs.Enabled.{only-enablers, enabled-bound}
use Rattle.shfl_bound.proofs.stealing.only_who_left_last_enables_stealing.Goals as goal

pub returns-clause-law : goal.returns-clause-law
returns-clause-law c = only-enablers

pub returns-clause-bound : goal.returns-clause-bound
returns-clause-bound c = enabled-bound
