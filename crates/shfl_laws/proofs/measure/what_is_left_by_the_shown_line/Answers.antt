use Rattle.shfl_laws.proofs.rounds.MeasureShown.{rounds-go-on}
use Rattle.shfl_laws.proofs.measure.what_is_left_by_the_shown_line.Goals as goal

pub returns : goal.returns
returns c = record { law = rounds-go-on }
