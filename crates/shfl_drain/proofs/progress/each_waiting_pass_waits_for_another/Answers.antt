use Rattle.shfl_drain.proofs.WaitsFor.{waits-for-another, sleeper-is-woken}
use Rattle.shfl_drain.proofs.progress.each_waiting_pass_waits_for_another.Goals as goal

pub returns-clause-law : goal.returns-clause-law
returns-clause-law c = waits-for-another

pub returns-clause-woken : goal.returns-clause-woken
returns-clause-woken c = sleeper-is-woken
