-- What `line` says of bytes.
use Rattle.std.specs.Prelude.{◌≡◌, ℕ, List, Ok, Err}
use Rattle.doc_text.specs.declared.fault.Fault.{Fault}
use Rattle.shfl_sched.specs.Grammar.{ReadsSchedule}
use Rattle.shfl_sched.specs.Schedules.{ScheduleModel, IsWithin}
use Rattle.shfl_sched.specs.Report.{line_report}
use Rattle.syncord_endings.specs.declared.ending.Refusal.{Refusal}
use Rattle.syncord_endings.specs.declared.ending.Refusal.TheVariants.{Line}
use Rattle.syncord_line.specs.Safety.{IsAlwaysSafe}

-- the bytes are a schedule, the text is the report of its run, and every state in it is safe
pub record Reports (bytes text : List ℕ) : Type 0 where
  pub schedule : ScheduleModel
  pub read : ReadsSchedule bytes (Ok schedule)
  pub within : IsWithin schedule
  pub told : text ≡ line_report schedule
  pub safe : IsAlwaysSafe schedule

-- the bytes are no schedule; the refusal tells the first bad line, and the lowest fault on it
pub record Refuses (bytes : List ℕ) (refusal : Refusal) : Type 0 where
  pub fault : Fault
  pub read : ReadsSchedule bytes (Err fault)
  pub told : refusal ≡ Line fault.line fault.what
