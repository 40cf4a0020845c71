-- The moves of a run as the events of a schedule.
use Rattle.std.specs.Prelude.{ℕ, List, [], ◌∷◌, cond, map, take}
use Rattle.shfl_line.specs.declared.words.Attr.{Attr}
use Rattle.shfl_line.specs.declared.events.Mode.{Mode}
use Rattle.shfl_line.specs.declared.events.Mode.TheVariants as mode
use Rattle.shfl_core.specs.Worlds.{World, Move, Acquire, Release, Step as Advance}
use Rattle.sim_line.specs.declared.events.Event.{Event}
use Rattle.sim_line.specs.declared.events.Event.TheVariants.{Write, Read, Free, Step}
use Rattle.sim_setup.specs.declared.setup.Setup.{Setup}
use Rattle.sim_model.specs.declared.bench.Bench.{Bench}
use Rattle.sim_model.specs.declared.turns.Turn.{Turn}
use Rattle.sim_model.specs.declared.turns.Turn.TheVariants as turns
use Rattle.sim_model.specs.declared.turns.Turn.TheVariants.{Call, Gain}
use Rattle.sim_model.specs.Runs.{Answers, State, moves_of, opening_state}
use Rattle.sim_model.specs.Tries.{mode_wanted, in_vain}

abbrev pub call_event : Mode → ℕ → Event
call_event mode.Write p = Write p
call_event mode.Read p = Read p

-- a schedule doesn't tell what a step was answered
abbrev pub event_of : Move → Event
event_of (Acquire p mode) = call_event mode p
event_of (Release p) = Free p
event_of (Advance p choice) = Step p

-- the events that a turn of a pass is: an attempt in vain is none
abbrev pub turn_events : Setup → World → Bench → ℕ → Turn → List Event
turn_events s w b p (Call tried) = cond (in_vain s w b p tried) [] (call_event (mode_wanted s b p) p ∷ Step p ∷ [])
turn_events s w b p turns.Step = Step p ∷ []
turn_events s w b p turns.Free = Free p ∷ Step p ∷ []
turn_events s w b p (Gain stolen) = []

-- the events of so many turns
abbrev pub events_of : Setup → Answers → ℕ → State → List Event
events_of s answers n st = map event_of (moves_of s answers n st)

-- of a run's events so many at most, the first ones
unfoldable pub first_events : Setup → Answers → ℕ → List Attr → ℕ → List Event
first_events s answers n attrs most = take most (events_of s answers n (opening_state s attrs))
