use Rattle.shfl_laws.proofs.laws.Laws.{laws}
use Rattle.shfl_laws.proofs.laws.MoveLaws.{move-law}
use Rattle.shfl_laws.proofs.schedules.every_move.Goals as goal

pub returns : goal.returns
returns c = record { law = λ t m. move-law t (laws t) m }
