use Rattle.shfl_laws.proofs.laws.Stealing.{steals-where-enabled, attempts-where-enabled}
use Rattle.shfl_laws.proofs.stealing.nobody_steals_while_disabled.Goals as goal

pub returns : goal.returns
returns c = record { steps = steals-where-enabled; attempts = attempts-where-enabled }
