use Rattle.shfl_bound.proofs.InOrder.{first-in-first-out}
use Rattle.shfl_bound.proofs.overtaking.first_in_first_out_at_limit_one.Goals as goal

pub returns : goal.returns
returns c = record { law = first-in-first-out }
