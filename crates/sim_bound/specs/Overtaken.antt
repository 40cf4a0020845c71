-- How many later calls pass one that waits, by who leaves the queue or comes past it.
use Rattle.std.specs.Prelude.{◌≢◌, ℕ, ◌+◌, ◌*◌, ◌≤◌, List, [], ◌∷◌, length, map, Bool, true, false, cond, ◌&&◌, not}
use Rattle.shfl_line.specs.declared.words.Attr.{Attr}
use Rattle.shfl_line.specs.declared.events.LineEvent.{LineEvent}
use Rattle.shfl_line.specs.declared.events.LineEvent.TheVariants.{Leave}
use Rattle.shfl_core.specs.Holding.{total}
use Rattle.shfl_core.specs.ShownLine.{shown_line}
use Rattle.shfl_core.specs.Worlds.{known}
use Rattle.shfl_laws.specs.Moves.{MayOpen}
use Rattle.shfl_laws.specs.Changes.{Moves, shown_events}
use Rattle.shfl_bound.specs.Departures.{Waits, ahead, leaver, is_through}
use Rattle.shfl_bound.specs.Stealing.{stealer}
use Rattle.sim_setup.specs.declared.setup.Setup.{Setup}
use Rattle.sim_model.specs.declared.turns.Stand.{Stand}
use Rattle.sim_model.specs.declared.turns.Stand.TheVariants.{Due}
use Rattle.sim_model.specs.declared.turns.Turn.TheVariants.{Free}
use Rattle.sim_model.specs.Calls.{served_at}
use Rattle.sim_model.specs.Laws.{IsSetUp}
use Rattle.sim_model.specs.Runs.{Answers, State, ran, moves_of, opening_state}
use Rattle.sim_model.specs.Turns.{stand_at}

-- its turn is to give the lock back, so its gain is counted
abbrev pub is_freeing : Stand → Bool
is_freeing (Due at Free) = true
is_freeing _ = false

abbrev pub is_gaining : State → ℕ → Bool
is_gaining st p = is_through (known st.world.passes p).phase && not (is_freeing (stand_at st.bench.stands p))

-- how many have left the queue or come past it, and their gain is still to come
abbrev pub gaining : Setup → State → ℕ
gaining s st = total s.passes (λ p. cond (is_gaining st p) 1 0)

-- how many leave the queue by these events
abbrev pub departures : List LineEvent → ℕ
departures [] = 0
departures (e ∷ rest) = length (leaver e) + departures rest

-- how many come past it
abbrev pub steals : List LineEvent → ℕ
steals [] = 0
steals (e ∷ rest) = length (stealer e) + steals rest

-- what the line shows of so many turns
abbrev pub shown_of : Setup → Answers → ℕ → State → List LineEvent
shown_of s answers n st = shown_events s.rules st.world (map Moves (moves_of s answers n st))

-- after n turns of a run, over k more: who passes the call of x that waits has left the queue or come past it
abbrev pub PassedBound : Type 0
PassedBound = (s : Setup) (answers : Answers) (n k : ℕ) (attrs : List Attr) (x : ℕ) → IsSetUp s attrs
    → let st = ran s answers n (opening_state s attrs) in
    (served_at (ran s answers k st).bench.served x).passed
    ≤ (served_at st.bench.served x).passed + (gaining s st + (departures (shown_of s answers k st) + steals (shown_of s answers k st)))

-- none of these events is the departure of x
abbrev pub StaysIn : ℕ → List LineEvent → Type 0
StaysIn x [] = Unit {0}
StaysIn x (e ∷ rest) = (e ≢ Leave x) × StaysIn x rest

-- so where x is in the queue all the while, at most the batch limit for each pass ahead of it, steals and those that had come through aside
abbrev pub QueuedBound : Type 0
QueuedBound = (s : Setup) (answers : Answers) (n k : ℕ) (attrs : List Attr) (x : ℕ) → IsSetUp s attrs → MayOpen s.rules attrs
    → let st = ran s answers n (opening_state s attrs) in
    Waits (shown_line st.world) x → StaysIn x (shown_of s answers k st)
    → (served_at (ran s answers k st).bench.served x).passed
    ≤ (served_at st.bench.served x).passed + (gaining s st + (s.rules.limit * length (ahead x (shown_line st.world).line) + steals (shown_of s answers k st)))
