-- The rows of a report that a picture shows: each, or those at which what is shown changes.
use Rattle.std.specs.Prelude.{List, [], ◌∷◌, Bool, false, ◌&&◌, ◌||◌, not, ◌==◌, codes, if◌then◌else◌}
use Rattle.shfl_line.specs.Words.{lock_word}
use Rattle.doc_text.specs.Words.{same}
use Rattle.line_picture.specs.Reports.{State, Row}

-- the two show the same
abbrev pub is_same_state : State → State → Bool
is_same_state s t = lock_word s.lock == lock_word t.lock && same s.holders t.holders && same s.queue t.queue
    && same s.detached t.detached && same s.shuffler t.shuffler && same s.asleep t.asleep

-- a lock that nobody holds, waits for or shuffles
abbrev pub quiet_state : State
quiet_state = record {
  lock = record { held = false; closed = false; readers = 0 };
  holders = codes "-";
  queue = codes "-";
  detached = codes "-";
  shuffler = codes "-";
  asleep = codes "-";
}

-- of the rows behind this state all, or those that show something else than the one before
abbrev pub shown_from : Bool → State → List Row → List Row
shown_from all before [] = []
shown_from all before (r ∷ rs) =
    if all || not (is_same_state before r.state) then r ∷ shown_from all r.state rs else shown_from all r.state rs

-- the rows of a report that are shown
abbrev pub shown : Bool → List Row → List Row
shown all rows = shown_from all quiet_state rows
