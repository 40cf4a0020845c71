use Rattle.std.proofs.Common.{ℕ, List, Result, Ok, Err, IfOk}
use Rattle.policy_text.specs.declared.document_error.DocumentError.{DocumentError}
use Rattle.policy_text.specs.declared.document_error.DocumentError.TheVariants as errors
use Rattle.doc_text.specs.Faults.{GivesOrWants}
use Rattle.policy_text.specs.Errors.{fault_of}
use Rattle.shfl_sched.specs.Errors.{Allows}
use Rattle.shfl_sched.specs.Grammar.{ReadsSchedule}
use Rattle.shfl_sched.specs.Schedules.{ScheduleModel, IsWithin}
use Rattle.shfl_sched.specs.Spelling.{IsText}
use Rattle.shfl_sched.proofs.Found.{found}
use Rattle.shfl_sched.proofs.Whole.{text-read}
use Rattle.shfl_sched.proofs.Once.{reads-once}
use Rattle.shfl_sched.proofs.read.read_schedule.Goals as goal

found-read : (bytes : List ℕ) (r : Result ScheduleModel DocumentError) → Allows r (ReadsSchedule bytes) → IfOk r (λ s. IsText bytes s × IsWithin s)
found-read bytes (Ok s) h = found bytes s h
found-read bytes (Err e) h = tt

pub returns-clause-found : goal.returns-clause-found
returns-clause-found c = found-read c.args.bytes.now c.schedule_of.result c.schedule_of.ensures

only-read : (bytes : List ℕ) (r : Result ScheduleModel DocumentError) → Allows r (ReadsSchedule bytes) → (s : ScheduleModel) → IsWithin s → IsText bytes s → GivesOrWants fault_of (λ (x : ScheduleModel). x) r (Ok s)
only-read bytes (Ok x) h s w t = reads-once bytes (Ok s) (Ok x) (text-read bytes s w t) h
only-read bytes (Err (errors.Format line what)) h s w t = reads-once bytes (Ok s) (Err (record { line = line; what = what })) (text-read bytes s w t) h
only-read bytes (Err errors.NoMemory) h s w t = tt

pub returns-clause-only : goal.returns-clause-only
returns-clause-only c = only-read c.args.bytes.now c.schedule_of.result c.schedule_of.ensures
