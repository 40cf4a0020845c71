use Rattle.shfl_drain.proofs.WindowRuns.{drains-in-windows}
use Rattle.shfl_drain.proofs.drain.a_fair_schedule_drains.Goals as goal

pub returns : goal.returns
returns c = record { windows = drains-in-windows }
