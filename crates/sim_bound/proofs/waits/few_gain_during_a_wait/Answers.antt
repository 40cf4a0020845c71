use Rattle.sim_bound.proofs.Passing.{passed-bound}
use Rattle.sim_bound.proofs.Queued.{queued-bound}
use Rattle.sim_bound.proofs.waits.few_gain_during_a_wait.Goals as goal

pub returns-clause-law : goal.returns-clause-law
returns-clause-law c = passed-bound

pub returns-clause-queued : goal.returns-clause-queued
returns-clause-queued c = queued-bound
