use Rattle.shfl_bound.proofs.Bound.{waiter-bound, joiner-bound, opened-bound}
use Rattle.shfl_bound.proofs.overtaking.no_policy_starves_a_waiter.Goals as goal

pub returns-clause-waiter : goal.returns-clause-waiter
returns-clause-waiter c = waiter-bound

pub returns-clause-joiner : goal.returns-clause-joiner
returns-clause-joiner c = joiner-bound

pub returns-clause-opened : goal.returns-clause-opened
returns-clause-opened c = opened-bound
