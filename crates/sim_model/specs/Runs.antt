-- A run: turn after turn, the soonest first, until the end or for so many turns.
use Rattle.std.specs.Prelude.{ℕ, zero, suc, ◌-◌, List, [], ◌∷◌, ◌++◌, Bool, true, false, cond, nat_le, Option, Some, None, slice_index, slice_set}
use Rattle.shfl_line.specs.declared.words.Attr.{Attr}
use Rattle.shfl_line.specs.declared.events.Mode.{Mode}
use Rattle.shfl_line.specs.declared.events.Mode.TheVariants as mode
use Rattle.shfl_core.specs.declared.phase.Ask.{Ask}
use Rattle.shfl_core.specs.Runner.{Lock}
use Rattle.shfl_core.specs.Worlds.{World, Move, Acquire, Release, Step as Advance, known, opening, after_move, run}
use Rattle.sim_setup.specs.declared.adviser.Advice.{Advice}
use Rattle.sim_setup.specs.declared.setup.Setup.{Setup}
use Rattle.sim_setup.specs.Clock.{plus}
use Rattle.sim_setup.specs.Places.{core_at}
use Rattle.sim_model.specs.declared.bench.Bench.{Bench}
use Rattle.sim_model.specs.declared.turns.Turn.{Turn}
use Rattle.sim_model.specs.declared.turns.Turn.TheVariants.{Call, Step, Gain, Free}
use Rattle.sim_model.specs.declared.turns.Stand.TheVariants.{Due}
use Rattle.sim_model.specs.declared.turns.Entry.{Entry}
use Rattle.sim_model.specs.Calls.{served_at, draw_after, gained, all_overtaken, in_order, DataTouched, data_touched}
use Rattle.sim_model.specs.Openings.{opening_bench}
use Rattle.sim_model.specs.Steps.{advice_at, made_by, settled}
use Rattle.sim_model.specs.Tries.{mode_wanted, in_vain, begun, with_attempt}
use Rattle.sim_model.specs.Turns.{soonest}

-- what a policy answers to a pass with these attributes
abbrev pub Answers : Type 0
Answers = Attr → Ask → Advice

abbrev pub is_read : Mode → Bool
is_read mode.Read = true
is_read mode.Write = false

-- the pass asks for the lock, at a time and after so many attempts: how it takes the lock is drawn
abbrev pub with_call : Setup → Bench → ℕ → ℕ → ℕ → Bench
with_call s b p tried at = record b {
  draws = slice_set b.draws p (draw_after s (slice_index b.draws p));
  served = slice_set b.served p (begun (served_at b.served p) tried at);
}

-- for how long the pass has waited that gains at a time
abbrev pub wait_of : Bench → ℕ → ℕ → ℕ
wait_of b p at = at - (served_at b.served p).called

-- the pass that gains touches the data
abbrev pub data_of : Setup → Bench → ℕ → Mode → ℕ → DataTouched
data_of s b p m at = data_touched s.costs (core_at s.cores p) (is_read m) at b.lines b.counts.«data» s.work.lines

-- the pass gains, at a time: it gives the lock back after its work
unfoldable pub with_gain : Setup → Bench → ℕ → Mode → Bool → ℕ → Bench
with_gain s b p m stolen at = let d = data_of s b p m at in record b {
  served = slice_set (all_overtaken s.passes (served_at b.served p).called b.served) p (gained (served_at b.served p) (wait_of b p at) (is_read m) stolen);
  order = in_order b.order p (core_at s.cores p).attr.socket;
  lines = d.lines;
  counts = record b.counts { «data» = d.reaches };
  stands = slice_set b.stands p (Due (plus d.ends s.work.hold) Free);
}

abbrev pub step_move : Setup → Answers → World → ℕ → Move
step_move s answers w p = Advance p (advice_at s answers w p).yes

abbrev pub call_move : Setup → Bench → ℕ → Move
call_move s b p = Acquire p (mode_wanted s b p)

-- a move of the pass, and its step after it
abbrev pub and_step : Setup → Answers → World → ℕ → Move → List Move
and_step s answers w p m = m ∷ step_move s answers (after_move s.rules w m) p ∷ []

-- the moves of the lock that a turn of a pass is: an attempt in vain is none
abbrev pub turn_moves : Setup → Answers → World → Bench → ℕ → Turn → List Move
turn_moves s answers w b p (Call tried) = cond (in_vain s w b p tried) [] (and_step s answers w p (call_move s b p))
turn_moves s answers w b p Step = step_move s answers w p ∷ []
turn_moves s answers w b p Free = and_step s answers w p (Release p)
turn_moves s answers w b p (Gain stolen) = []

-- what a turn at a time comes to besides
abbrev pub turn_bench : Setup → Answers → World → Bench → ℕ → ℕ → Turn → Bench
turn_bench s answers w b p at (Call tried) = cond (in_vain s w b p tried) (with_attempt s b p tried at)
    (settled s (with_call s b p tried at) p (made_by s answers (after_move s.rules w (call_move s b p)) p) at)
turn_bench s answers w b p at Step = settled s b p (made_by s answers w p) at
turn_bench s answers w b p at Free = settled s b p (made_by s answers (after_move s.rules w (Release p)) p) at
turn_bench s answers w b p at (Gain stolen) = with_gain s b p (known w.passes p).reg.mode stolen at

-- a lock after moves, in their order
abbrev pub after_moves : Lock → List Move → Lock
after_moves a ms = record a { world = run a.rules a.world ms }

-- the wait that ends with the turn
abbrev pub turn_wait : Bench → ℕ → ℕ → Turn → Option ℕ
turn_wait b p at (Gain stolen) = Some (wait_of b p at)
turn_wait b p at turn = None

abbrev pub listed : Option ℕ → List ℕ
listed None = []
listed (Some wait) = wait ∷ []

-- the lock, what a run has besides, and the waits so far in the order of their gains
pub record State : Type 0 where
  pub world : World
  pub bench : Bench
  pub waits : List ℕ

abbrev pub state_of : Lock → Bench → List ℕ → State
state_of a b waits = record { world = a.world; bench = b; waits = waits }

-- the state after a turn
abbrev pub after_turn : Setup → Answers → State → Entry → State
after_turn s answers st e = record {
  world = run s.rules st.world (turn_moves s answers st.world st.bench e.pass e.turn);
  bench = turn_bench s answers st.world st.bench e.pass e.at e.turn;
  waits = st.waits ++ listed (turn_wait st.bench e.pass e.at e.turn);
}

abbrev pub in_time : ℕ → Option Entry → Option Entry
in_time until None = None
in_time until (Some e) = cond (nat_le e.at until) (Some e) None

-- the turn that comes next, unless it comes after the end
abbrev pub next_turn : Setup → Bench → Option Entry
next_turn s b = in_time s.until (soonest b.stands s.passes)

abbrev pub is_due : Option Entry → Bool
is_due None = false
is_due (Some e) = true

-- turns are left before the end
abbrev pub is_cut : Setup → Bench → Bool
is_cut s b = is_due (next_turn s b)

-- the time of a turn, or this one where there is none
abbrev pub time_or : ℕ → Option Entry → ℕ
time_or until None = until
time_or until (Some e) = e.at

-- up to when a run that stands so has come: its end, or where it is cut the time of the turn that would come next
abbrev pub time_reached : Setup → Bench → ℕ
time_reached s b = time_or s.until (next_turn s b)

abbrev pub turning : {A : Type 0} → Option Entry → A → (Entry → A) → A
turning None stops further = stops
turning (Some e) stops further = further e

-- the state after so many turns, or at the end where that comes first
abbrev pub ran : Setup → Answers → ℕ → State → State
ran s answers zero st = st
ran s answers (suc n) st = turning (next_turn s st.bench) st (λ e. ran s answers n (after_turn s answers st e))

abbrev pub opening_state : Setup → List Attr → State
opening_state s attrs = record { world = opening attrs; bench = opening_bench s; waits = [] }

-- the moves of the lock in so many turns, in their order
abbrev pub moves_of : Setup → Answers → ℕ → State → List Move
moves_of s answers zero st = []
moves_of s answers (suc n) st = turning (next_turn s st.bench) []
    (λ e. turn_moves s answers st.world st.bench e.pass e.turn ++ moves_of s answers n (after_turn s answers st e))
