use Rattle.call_queue.proofs.Moves.{pushes}
use Rattle.call_queue.proofs.opening.push_one.Goals as goal

pub try_push_as-requires-clause-rule : goal.try_push_as-requires-clause-rule
try_push_as-requires-clause-rule g c = pushes _ _ _ _ c.requires.fills c.requires.pass.1 c.requires.place
