use Rattle.shfl_world.proofs.Moving.{move-lawful}
use Rattle.shfl_world.proofs.laws.every_move_of_a_world.Goals as goal

pub returns : goal.returns
returns c = record { law = move-lawful }
