use Rattle.shfl_laws.proofs.rounds.MeasureAttempts.{others-attempt-keeps}
use Rattle.shfl_laws.proofs.rounds.MeasureRounds.{own-lowers, others-keep, begins-bounded}
use Rattle.shfl_laws.proofs.measure.what_is_left_of_a_round.Goals as goal

pub returns : goal.returns
returns c = record { own = own-lowers; others = others-keep; attempts = others-attempt-keeps; begins = begins-bounded }
