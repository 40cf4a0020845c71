-- A schedule's run: each event is a move of its pass, and each moment has the lock after it.
use Rattle.std.specs.Prelude.{ℕ, List, [], ◌∷◌, map, Bool, true, false, slice_index_or, take}
use Rattle.shfl_line.specs.declared.events.Mode.TheVariants.{Write as Alone, Read as Beside}
use Rattle.shfl_line.specs.declared.words.Attr.{Attr}
use Rattle.shfl_core.specs.declared.phase.Rules.{Rules}
use Rattle.shfl_core.specs.Runner.{Lock}
use Rattle.shfl_core.specs.Waiting.{ask}
use Rattle.shfl_core.specs.Worlds.{World, Move, Acquire, Release, Step as Advance, known, opening, admitted, after_move, run}
use Rattle.shfl_policy.specs.Policies.{no_waiter}
use Rattle.shfl_sched.specs.declared.schedule.Act.{Act}
use Rattle.shfl_sched.specs.declared.schedule.Act.TheVariants.{Write, Read, Free, Step}
use Rattle.shfl_sched.specs.declared.schedule.Event.{Event}
use Rattle.shfl_sched.specs.declared.schedule.Rule.{Rule}
use Rattle.shfl_sched.specs.Schedules.{ScheduleModel}
use Rattle.shfl_sched.specs.Choices.{answers}

-- what stands fixed in a run: the rules of the lock, the policy, and the attributes of each pass
pub record Setup : Type 0 where
  pub rules : Rules
  pub rule : Rule
  pub attrs : List Attr

abbrev pub rules_of : ScheduleModel → Rules
rules_of s = record { limit = s.limit; form = s.form }

abbrev pub setup_of : ScheduleModel → Setup
setup_of s = record { rules = rules_of s; rule = s.rule; attrs = s.passes }

abbrev pub own_attr : Setup → ℕ → Attr
own_attr t pass = slice_index_or t.attrs pass no_waiter

-- the choice at the pass's next step: what the policy answers to what it asks
abbrev pub choice_at : Setup → World → ℕ → Bool
choice_at t w pass = answers t.rule (own_attr t pass) (ask t.rules (known w.passes pass))

abbrev pub is_step : Act → Bool
is_step Step = true
is_step _ = false

-- the move of a pass that an act is; the choice counts for a step alone
abbrev pub move_of : Act → ℕ → Bool → Move
move_of Write pass choice = Acquire pass Alone
move_of Read pass choice = Acquire pass Beside
move_of Free pass choice = Release pass
move_of Step pass choice = Advance pass choice

-- the move that an event is in a world
abbrev pub move_in : Setup → World → Event → Move
move_in t w e = move_of e.act e.pass (choice_at t w e.pass)

-- the world after an event; one that isn't admitted changes nothing
abbrev pub after_event : Setup → World → Event → World
after_event t w e = after_move t.rules w (move_in t w e)

-- an event, the move that it was, whether it was admitted, and the lock after it
pub record Moment : Type 0 where
  pub event : Event
  pub move : Move
  pub admitted : Bool
  pub after : World

abbrev pub moment_of : Setup → World → Event → Moment
moment_of t w e = record {
  event = e;
  move = move_in t w e;
  admitted = admitted w (move_in t w e);
  after = after_event t w e;
}

abbrev pub moments : Setup → World → List Event → List Moment
moments t w [] = []
moments t w (e ∷ rest) = moment_of t w e ∷ moments t (after_event t w e) rest

-- the moments of a schedule, from the opening on
abbrev pub moments_of : ScheduleModel → List Moment
moments_of s = moments (setup_of s) (opening s.passes) s.events

-- the moves of moments, in their order
abbrev pub moves : List Moment → List Move
moves ms = map (λ m. m.move) ms

-- the lock after so many events of a schedule: the run of their moves, from the opening on
abbrev pub lock_after : ScheduleModel → ℕ → Lock
lock_after s n = record {
  rules = rules_of s;
  world = run (rules_of s) (opening s.passes) (moves (take n (moments_of s)));
}
