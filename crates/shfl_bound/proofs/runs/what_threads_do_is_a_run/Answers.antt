use Rattle.shfl_laws.proofs.runs.Runs.{runs-go-on}
use Rattle.shfl_bound.proofs.SharedRuns.{runs-are-safe, moves-are-schedules}
use Rattle.shfl_bound.proofs.runs.what_threads_do_is_a_run.Goals as goal

pub returns : goal.returns
returns c = record { goes_on = runs-go-on; safe = runs-are-safe; schedules = moves-are-schedules }
