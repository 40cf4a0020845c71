use Rattle.shfl_drain.proofs.FewMoves.{few-moves-on, drains-by-them}
use Rattle.shfl_drain.proofs.drain.a_lock_without_newcomers_drains.Goals as goal

pub returns-clause-moves : goal.returns-clause-moves
returns-clause-moves c = few-moves-on

pub returns-clause-drained : goal.returns-clause-drained
returns-clause-drained c = drains-by-them
