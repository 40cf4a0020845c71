-- The laws of every move and of every run, in plain words.
use Rattle.std.specs.Prelude.{◌≡◌, ℕ, ◌<◌, List, length}
use mathlib.Core.Option.{some}
use lib.ListN.{get_elem?}
use Rattle.shfl_line.specs.declared.events.Mode.{Mode}
use Rattle.shfl_line.specs.declared.events.LineEvent.{LineEvent}
use Rattle.shfl_line.specs.declared.events.LineEvent.TheVariants.{Nothing}
use Rattle.shfl_line.specs.declared.words.Attr.{Attr}
use Rattle.shfl_line.specs.Line.{Line, empty}
use Rattle.shfl_line.specs.Steps.{Admits, after}
use Rattle.shfl_core.specs.declared.phase.Phase.TheVariants.{Idle}
use Rattle.shfl_core.specs.declared.phase.PassState.{PassState}
use Rattle.shfl_core.specs.declared.phase.Rules.{Rules}
use Rattle.shfl_core.specs.Words.{look, site}
use Rattle.shfl_core.specs.Plan.{attempt_plan}
use Rattle.shfl_core.specs.Waiting.{MayUse}
use Rattle.shfl_core.specs.Worlds.{World, opening, tried, Move, after_move, run}
use Rattle.shfl_core.specs.Events.{attempt_event}
use Rattle.shfl_core.specs.Lawful.{Terms, count}
use Rattle.shfl_laws.specs.Moves.{MayMove, EachMayMove, move_event, terms, MayOpen, unseated, first_seated, with_one_more}
use Rattle.shfl_laws.specs.Plain.{PlainLawful}

-- a world shows one state
abbrev pub PlainOne : Type 0
PlainOne = (t : Terms) (w : World) (a b : Line) → PlainLawful t w a → PlainLawful t w b → a ≡ b

-- a lock at its opening shows that nobody holds or waits
abbrev pub PlainOpening : Type 0
PlainOpening = (rules : Rules) (attrs : List Attr) → MayOpen rules attrs
    → PlainLawful (terms rules attrs) (opening attrs) (empty (length attrs))

-- and so does one before any seat is filled, and with the first one filled
pub record PlainStarts : Type 0 where
  pub unseated : (rules : Rules) (attrs : List Attr) → MayOpen rules attrs → PlainLawful (terms rules attrs) (unseated attrs) (empty (length attrs))
  pub first_seat : (rules : Rules) (attrs : List Attr) → MayOpen rules attrs → PlainLawful (terms rules attrs) (first_seated attrs) (empty (length attrs))

-- the event is a step of the line from s, and the world is lawful and shows the state after it
pub record StepsTo (t : Terms) (s : Line) (e : LineEvent) (w : World) : Type 0 where
  pub admitted : Admits t.rules.limit s e
  pub lawful : PlainLawful t w (after s e)

-- a move leads from a lawful world to one, and the shown states are one step of the line apart, the one that is named
abbrev pub PlainMoves : Type 0
PlainMoves = (t : Terms) (m : Move) (w : World) (s : Line) → PlainLawful t w s → MayMove t.rules.form m
    → StepsTo t s (move_event t.rules w m) (after_move t.rules w m)

-- so does the one operation of an attempt, by an idle pass, and a seat that is filled shows nothing
abbrev pub PlainAttempts : Type 0
PlainAttempts = (t : Terms) (mode : Mode) (w : World) (p : ℕ) (q : PassState) (s : Line) → PlainLawful t w s
    → get_elem? w.passes p ≡ some q → q.phase ≡ Idle → MayUse t.rules.form mode
    → StepsTo t s (attempt_event mode p (look w.words (site (attempt_plan mode)))) (tried w p q mode)

abbrev pub PlainSeats : Type 0
PlainSeats = (t : Terms) (w : World) (s : Line) → PlainLawful t w s → length w.passes < count t
    → StepsTo t s Nothing (with_one_more w)

-- after every schedule from the opening, whatever the policies answer, the world is lawful
abbrev pub PlainRuns : Type 0
PlainRuns = (rules : Rules) (attrs : List Attr) (moves : List Move) → MayOpen rules attrs → EachMayMove rules.form moves
    → (s : Line) × PlainLawful (terms rules attrs) (run rules (opening attrs) moves) s
