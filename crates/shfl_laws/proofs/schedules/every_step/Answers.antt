use Rattle.shfl_laws.proofs.laws.OwnSteps.{step-law}
use Rattle.shfl_laws.proofs.schedules.every_step.Goals as goal

pub returns : goal.returns
returns c = record { law = step-law }
