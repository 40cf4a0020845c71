use Rattle.shfl_sched.proofs.RunMoments.{moments_are_run, moves_may_be_made}
use Rattle.shfl_sched.proofs.run_laws.runs_are_moves.Goals as goal

pub returns-clause-run : goal.returns-clause-run
returns-clause-run c = moments_are_run

pub returns-clause-allowed : goal.returns-clause-allowed
returns-clause-allowed c = moves_may_be_made
