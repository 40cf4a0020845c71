use Rattle.shfl_bound.proofs.Bound.{overtaking-number}
use Rattle.shfl_bound.proofs.overtaking.what_may_still_leave_before_a_waiter.Goals as goal

pub returns : goal.returns
returns c = record { law = overtaking-number }
