-- Where an event is admitted, as a test; it agrees with `Admits`.
use Rattle.std.specs.Prelude.{◌≡◌, ◌↔◌, ℕ, suc, List, Bool, true, false, ◌==◌, ◌&&◌, ◌||◌, not, nat_lt}
use Rattle.shfl_line.specs.declared.events.Mode.{Mode}
use Rattle.shfl_line.specs.declared.events.Mode.TheVariants.{Write, Read}
use Rattle.shfl_line.specs.declared.events.Role.{Role}
use Rattle.shfl_line.specs.declared.events.Role.TheVariants.{Nobody, Walk, Rest as Idle}
use Rattle.shfl_line.specs.declared.events.LineEvent.{LineEvent}
use Rattle.shfl_line.specs.declared.events.LineEvent.TheVariants.{Steal, Join, Grab, Leave, Release, Begin, Rest, Pick, Place, Keep, Give, Nothing}
use Rattle.shfl_line.specs.Words.{link_word}
use Rattle.shfl_line.specs.Passes.{times, first, last, follower, behind, last_marked}
use Rattle.shfl_line.specs.Line.{Line, mark_of, active_shuffler, idle_shuffler, holds, writer_count, reader_count}
use Rattle.shfl_line.specs.Steps.{Admits, begun_mark, batch_end}

abbrev pub is_free_for : Mode → List (ℕ × Mode) → Bool
is_free_for Write hold = (writer_count hold == 0) && (reader_count hold == 0)
is_free_for Read hold = writer_count hold == 0

abbrev pub is_away : Line → ℕ → Bool
is_away s p = (times p s.line == 0) && not (link_word s.hand == suc p)

abbrev pub is_nobody : Role → Bool
is_nobody Nobody = true
is_nobody (Idle p) = false
is_nobody (Walk p) = false

abbrev pub may_begin : Line → ℕ → Bool
may_begin s p = (holds p s.hold == 0)
    && ((idle_shuffler s.role == suc p) || ((first s.line == suc p) && (mark_of s p == 0) && is_nobody s.role))

-- the pass is in a round, and some pass of the line has a batch number
abbrev pub is_in_round : Line → ℕ → Bool
is_in_round s p = (active_shuffler s.role == suc p) && not (last_marked (mark_of s) s.line == 0)

-- besides, it has detached no waiter
abbrev pub is_in_line_round : Line → ℕ → Bool
is_in_line_round s p = is_in_round s p && (link_word s.hand == 0)

abbrev pub has_room : ℕ → Line → Bool
has_room limit s = nat_lt (mark_of s (batch_end s)) limit

abbrev pub may_detach : List ℕ → ℕ → ℕ → Bool
may_detach line l who =
    not (times who (behind l line) == 0) && not (follower l line == suc who) && not (last line == suc who)

-- the pass may take the lock past the line
abbrev pub may_steal : Line → ℕ → Mode → Bool
may_steal s p mode = is_free_for mode s.hold && (holds p s.hold == 0) && is_away s p

-- the pass may take the lock as the line's first
abbrev pub may_grab : Line → ℕ → Mode → Bool
may_grab s p mode =
    (first s.line == suc p) && not (active_shuffler s.role == suc p) && (holds p s.hold == 0) && is_free_for mode s.hold

-- the event may happen
abbrev pub admits : ℕ → Line → LineEvent → Bool
admits limit s (Steal p mode) = may_steal s p mode
admits limit s (Join p) = is_away s p && (holds p s.hold == 0)
admits limit s (Grab p mode) = may_grab s p mode
admits limit s (Leave p) = (first s.line == suc p) && not (holds p s.hold == 0)
admits limit s (Release p) = not (holds p s.hold == 0) && (times p s.line == 0)
admits limit s (Begin p) = may_begin s p && nat_lt (begun_mark (mark_of s p)) limit
admits limit s (Rest p) = may_begin s p && not (nat_lt (begun_mark (mark_of s p)) limit)
admits limit s (Pick p who) = is_in_line_round s p && has_room limit s && may_detach s.line (batch_end s) who
admits limit s (Place p) = is_in_round s p && not (link_word s.hand == 0)
admits limit s (Keep p) = is_in_line_round s p && has_room limit s && not (follower (batch_end s) s.line == 0)
admits limit s (Give p) = is_in_line_round s p
admits limit s Nothing = true

-- the test says of every event, in every state, whether it is admitted
abbrev pub TestsAgree : Type 0
TestsAgree = (limit : ℕ) (s : Line) (e : LineEvent) → (admits limit s e ≡ true) ↔ Admits limit s e
