use Rattle.shfl_laws.proofs.laws.Laws.{laws}
use Rattle.shfl_laws.proofs.rounds.MeasureRounds.{rounds-short}
use Rattle.shfl_laws.proofs.rounds.MeasureShown.{begins-short}
use Rattle.shfl_laws.proofs.measure.a_round_is_short.Goals as goal

pub returns-clause-law : goal.returns-clause-law
returns-clause-law c = rounds-short laws

pub returns-clause-begun : goal.returns-clause-begun
returns-clause-begun c = begins-short
