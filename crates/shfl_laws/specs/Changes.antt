-- What happens to a lock, and what the line shows of it.
use Rattle.std.specs.Prelude.{ℕ, List, [], ◌∷◌, Bool, cond, ◌&&◌, nat_lt, length}
use Rattle.shfl_line.specs.declared.events.Form.{Form}
use Rattle.shfl_line.specs.declared.events.Mode.{Mode}
use Rattle.shfl_line.specs.declared.events.LineEvent.{LineEvent}
use Rattle.shfl_line.specs.declared.events.LineEvent.TheVariants.{Nothing}
use Rattle.shfl_core.specs.declared.phase.Phase.TheVariants.{Idle}
use Rattle.shfl_core.specs.declared.phase.Registers.{Registers}
use Rattle.shfl_core.specs.declared.phase.Rules.{Rules}
use Rattle.shfl_core.specs.Words.{look, site, wide}
use Rattle.shfl_core.specs.Plan.{is_idle, attempt_plan}
use Rattle.shfl_core.specs.Take.{to}
use Rattle.shfl_core.specs.Waiting.{MayUse}
use Rattle.shfl_core.specs.Worlds.{World, known, placed_at, tried, Move, after_move}
use Rattle.shfl_core.specs.Events.{attempt_event}
use Rattle.shfl_laws.specs.Moves.{MayMove, move_event, with_one_more}
use Rattle.shfl_laws.specs.Stealing.{stealing_disabled}

-- a move of a schedule, the one operation of an attempt, stealing disabled beside the rows by a pass, a seat that is filled,
-- or an idle pass that is replaced by an idle one with these registers
pub data Change : Type 0 where
  Moves : Move → Change
  Tries : ℕ → Mode → Change
  Disables : ℕ → Change
  Fills : Change
  Replaces : ℕ → Registers → Change

-- the pass is there, and idle
abbrev pub is_idle_there : World → ℕ → Bool
is_idle_there w p = nat_lt p (length w.passes) && is_idle (known w.passes p).phase

-- there are words for one pass more
abbrev pub has_seat : World → Bool
has_seat w = nat_lt (wide (length w.passes)) (length w.words)

-- the world after a change; one that isn't admitted changes nothing
abbrev pub after_change : Rules → World → Change → World
after_change t w (Moves m) = after_move t w m
after_change t w (Tries p mode) = cond (is_idle_there w p) (tried w p (known w.passes p) mode) w
after_change t w (Disables p) = stealing_disabled w
after_change t w Fills = cond (has_seat w) (with_one_more w) w
after_change t w (Replaces p r) = cond (is_idle_there w p) (placed_at w p (to Idle (record r { me = p }))) w

-- what the line shows of a change
abbrev pub change_event : Rules → World → Change → LineEvent
change_event t w (Moves m) = move_event t w m
change_event t w (Tries p mode) = cond (is_idle_there w p) (attempt_event mode p (look w.words (site (attempt_plan mode)))) Nothing
change_event t w (Disables p) = Nothing
change_event t w Fills = Nothing
change_event t w (Replaces p r) = Nothing

-- in a form without readers every acquire and every attempt is a writer's
abbrev pub MayChange : Form → Change → Type 0
MayChange form (Moves m) = MayMove form m
MayChange form (Tries p mode) = MayUse form mode
MayChange form (Disables p) = Unit {0}
MayChange form Fills = Unit {0}
MayChange form (Replaces p r) = Unit {0}

abbrev pub EachMayChange : Form → List Change → Type 0
EachMayChange form [] = Unit {0}
EachMayChange form (c ∷ rest) = MayChange form c × EachMayChange form rest

-- the events of the line that these changes show
abbrev pub shown_events : Rules → World → List Change → List LineEvent
shown_events t w [] = []
shown_events t w (c ∷ rest) = change_event t w c ∷ shown_events t (after_change t w c) rest

-- the world after these changes, in their order
abbrev pub after_changes : Rules → World → List Change → World
after_changes t w [] = w
after_changes t w (c ∷ rest) = after_changes t (after_change t w c) rest
