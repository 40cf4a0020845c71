use Rattle.shfl_laws.proofs.laws.Opens.{opening-law}
use Rattle.shfl_laws.proofs.schedules.openings.Goals as goal

pub returns : goal.returns
returns c = record { law = opening-law }
