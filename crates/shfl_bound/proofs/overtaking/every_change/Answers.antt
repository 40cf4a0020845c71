use Rattle.shfl_bound.proofs.ChangeLaws.{change-law}
use Rattle.shfl_bound.proofs.overtaking.every_change.Goals as goal

pub returns : goal.returns
returns c = record { law = change-law }
