use Rattle.shfl_laws.proofs.laws.MoveRows.{forget-law}
use Rattle.shfl_laws.proofs.schedules.an_idle_pass_is_forgotten.Goals as goal

pub returns : goal.returns
returns c = record { law = forget-law }
