use Rattle.shfl_laws.proofs.laws.OwnSteps.{own-step-law, own-range}
use Rattle.shfl_laws.proofs.seen.a_step_as_seen.Goals as goal

pub returns-clause-step : goal.returns-clause-step
returns-clause-step c = own-step-law

pub returns-clause-in_range : goal.returns-clause-in_range
returns-clause-in_range c = own-range
