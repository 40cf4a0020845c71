-- A report, and a report in memory seen as one.
use Rattle.std.specs.Prelude.{ℕ, List, map, Bool, count_by, not}
use Rattle.shfl_line.specs.declared.events.Form.{Form}
use Rattle.shfl_line.specs.declared.words.LockWord.{LockWord}
use Rattle.line_picture.specs.declared.report.Event.{Event as EventRead}
use Rattle.line_picture.specs.declared.report.State.{State as StateRead}
use Rattle.line_picture.specs.declared.report.Row.{Row as RowRead}
use Rattle.line_picture.specs.declared.report.Report.{Report as ReportRead}

-- an event, and whether it was admitted
pub record Event : Type 0 where
  pub number : List ℕ
  pub act : List ℕ
  pub pass : List ℕ
  pub admitted : Bool

-- what a lock shows after an event, each column as it stands in the report
pub record State : Type 0 where
  pub lock : LockWord
  pub holders : List ℕ
  pub queue : List ℕ
  pub detached : List ℕ
  pub shuffler : List ℕ
  pub asleep : List ℕ

-- the line of an event, and what it says
pub record Row : Type 0 where
  pub line : List ℕ
  pub event : Event
  pub state : State

-- a report: its first line, what that says, and the lines of the events
pub record Report : Type 0 where
  pub heading : List ℕ
  pub form : Form
  pub passes : ℕ
  pub rows : List Row

abbrev pub event_said : EventRead → Event
event_said e = record { number = e.number.now; act = e.act.now; pass = e.pass.now; admitted = e.admitted }

abbrev pub state_said : StateRead → State
state_said s = record {
  lock = s.lock;
  holders = s.holders.now;
  queue = s.queue.now;
  detached = s.detached.now;
  shuffler = s.shuffler.now;
  asleep = s.asleep.now;
}

abbrev pub row_said : RowRead → Row
row_said r = record { line = r.line.now; event = event_said r.event; state = state_said r.state }

abbrev pub report_said : ReportRead → Report
report_said r = record { heading = r.heading.now; form = r.form; passes = r.passes; rows = map row_said r.rows.items }

-- how many of the events were admitted, and how many weren't
abbrev pub count_admitted : List Row → ℕ
count_admitted rows = count_by (λ r. r.event.admitted) rows

abbrev pub count_refused : List Row → ℕ
count_refused rows = count_by (λ r. not r.event.admitted) rows
