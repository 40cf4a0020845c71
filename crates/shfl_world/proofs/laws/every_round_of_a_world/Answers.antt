use Rattle.shfl_world.proofs.Facts.{rounds-end}
use Rattle.shfl_world.proofs.laws.every_round_of_a_world.Goals as goal

pub returns : goal.returns
returns c = record { law = rounds-end }
