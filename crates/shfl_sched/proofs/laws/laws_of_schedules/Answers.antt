use Rattle.shfl_sched.proofs.Found.{found}
use Rattle.shfl_sched.proofs.Once.{reads-once}
use Rattle.shfl_sched.proofs.Whole.{text-read}
use Rattle.shfl_sched.proofs.laws.laws_of_schedules.Goals as goal

pub returns-clause-once : goal.returns-clause-once
returns-clause-once c = reads-once

pub returns-clause-text : goal.returns-clause-text
returns-clause-text c = λ bytes s. (found bytes s, λ h. text-read bytes s h.1 h.0)
