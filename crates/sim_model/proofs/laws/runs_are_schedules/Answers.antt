use Rattle.sim_model.proofs.Scheduled.{runs-are-schedules}
use Rattle.sim_model.proofs.Turned.{runs-are-admitted}
use Rattle.sim_model.proofs.laws.runs_are_schedules.Goals as goal

pub returns-clause-run : goal.returns-clause-run
returns-clause-run c = runs-are-schedules

pub returns-clause-admitted : goal.returns-clause-admitted
returns-clause-admitted c = runs-are-admitted
