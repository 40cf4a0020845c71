use Rattle.shfl_drain.proofs.HandingOn.{handing-on, always-hands-on}
use Rattle.shfl_drain.proofs.rounds.a_shuffler_always_hands_on.Goals as goal

pub returns-clause-rounds : goal.returns-clause-rounds
returns-clause-rounds c = handing-on

pub returns-clause-runs : goal.returns-clause-runs
returns-clause-runs c = always-hands-on
