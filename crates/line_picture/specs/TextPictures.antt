-- A report as text: a line of the columns' names, and a line for each row that is shown. Each part but the last is filled up with blanks.
use Rattle.std.specs.Prelude.{ℕ, ◌-◌, List, [], ◌++◌, length, take, Bool, true, false, codes, if◌then◌else◌}
use Rattle.std.specs.List.{flat_map}
use Rattle.std.specs.Fmt.{decimal}
use Rattle.shfl_line.specs.declared.events.Form.{Form}
use Rattle.shfl_line.specs.declared.words.LockWord.{LockWord}
use Rattle.line_picture.specs.Lists.{has_readers, has_sleepers}
use Rattle.line_picture.specs.Reports.{Event, State, Row, Report}
use Rattle.line_picture.specs.Changes.{shown}

abbrev pub blanks : List ℕ
blanks = codes "                  "

-- a text filled up to a width of at most 18
unfoldable pub column : ℕ → List ℕ → List ℕ
column width text = text ++ take (width - length text) blanks

-- an event that was not admitted is marked
abbrev pub refusal_mark : Bool → List ℕ
refusal_mark true = []
refusal_mark false = codes "no"

-- the number, the event with its pass, and the mark
unfoldable pub event_columns : Event → List ℕ
event_columns e = column 6 e.number ++ column 6 e.act ++ column 3 e.pass ++ column 3 (refusal_mark e.admitted)

abbrev pub held_text : Bool → List ℕ
held_text true = codes "held"
held_text false = codes "free"

abbrev pub closed_text : Bool → List ℕ
closed_text true = codes "closed"
closed_text false = codes "open"

-- the number of readers in the lock word, in the forms that have it
abbrev pub readers_column : Form → LockWord → List ℕ
readers_column form lock = if has_readers form then column 8 (decimal lock.readers) else []

-- what the lock word says
unfoldable pub lock_columns : Form → LockWord → List ℕ
lock_columns form lock = column 5 (held_text lock.held) ++ column 7 (closed_text lock.closed) ++ readers_column form lock

-- the sleepers, in the forms that have them
abbrev pub asleep_column : Form → List ℕ → List ℕ
asleep_column form asleep = if has_sleepers form then column 7 asleep else []

-- who shuffles, who is detached, who sleeps, who holds the lock, and the queue
unfoldable pub state_columns : Form → State → List ℕ
state_columns form s = column 9 s.shuffler ++ column 9 s.detached ++ asleep_column form s.asleep ++ column 8 s.holders ++ s.queue

-- the line of a row
unfoldable pub row_text : Form → Row → List ℕ
row_text form r = event_columns r.event ++ lock_columns form r.state.lock ++ state_columns form r.state ++ codes "\n"

abbrev pub readers_name : Form → List ℕ
readers_name form = if has_readers form then column 8 (codes "readers") else []

-- the names of the columns
unfoldable pub names_text : Form → List ℕ
names_text form = column 18 (codes "event") ++ column 12 (codes "lock") ++ readers_name form ++ column 9 (codes "shuffler")
    ++ column 9 (codes "detached") ++ asleep_column form (codes "asleep") ++ column 8 (codes "holders") ++ codes "queue\n"

-- the whole, with all rows or those at which something changes
unfoldable pub text_picture : Bool → Report → List ℕ
text_picture all report = names_text report.form ++ flat_map (row_text report.form) (shown all report.rows)
