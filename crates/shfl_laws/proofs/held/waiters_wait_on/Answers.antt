use Rattle.shfl_laws.proofs.laws.Waits.{waits-on}
use Rattle.shfl_laws.proofs.held.waiters_wait_on.Goals as goal

pub returns : goal.returns
returns c = record { law = waits-on }
