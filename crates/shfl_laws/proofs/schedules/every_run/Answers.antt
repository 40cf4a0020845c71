use Rattle.shfl_laws.proofs.laws.Laws.{laws}
use Rattle.shfl_laws.proofs.laws.MoveLaws.{run-law}
use Rattle.shfl_laws.proofs.schedules.every_run.Goals as goal

pub returns : goal.returns
returns c = record { law = run-law laws }
