use Rattle.call_queue.proofs.Moves.{forks}
use Rattle.call_queue.proofs.opening.next_taker.Goals as goal

pub another-next-requires-clause-rule : goal.another-next-requires-clause-rule
another-next-requires-clause-rule g c = forks _ _ c.requires.pass.1
