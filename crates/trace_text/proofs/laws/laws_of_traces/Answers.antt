use Rattle.trace_text.proofs.Found.{found}
use Rattle.trace_text.proofs.Once.{reads-once}
use Rattle.trace_text.proofs.Only.{text-read}
use Rattle.trace_text.proofs.laws.laws_of_traces.Goals as goal

pub returns-clause-once : goal.returns-clause-once
returns-clause-once c = reads-once

pub returns-clause-text : goal.returns-clause-text
returns-clause-text c = λ bytes d. (found bytes d, λ h. text-read bytes d h.1 h.0)
