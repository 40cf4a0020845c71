use Rattle.shfl_drain.proofs.DrainNumber.{drain-number}
use Rattle.shfl_drain.proofs.drain.what_is_left_until_a_lock_has_drained.Goals as goal

pub returns : goal.returns
returns c = record { law = drain-number }
