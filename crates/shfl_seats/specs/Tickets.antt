-- A seat as callers outside the language see it, and what its calls do with it.
use Rattle.std.specs.Prelude.{◌≡◌, ◌≢◌, ℕ, ◌<◌, ◌≤◌, Bool, true, false, List, length, slice_get, Option, Some, None}
use Rattle.shfl_line.specs.declared.events.Mode.{Mode}
use Rattle.shfl_line.specs.declared.words.Attr.{Attr}
use Rattle.shfl_core.specs.declared.phase.Rules.{Rules}
use Rattle.shfl_core.specs.Plan.{moving}
use Rattle.shfl_core.specs.Waiting.{MayUse}
use Rattle.shfl_core.specs.Words.{most_passes}
use Rattle.shfl_policy.specs.Policies.{PolicyModel, no_waiter}
use Rattle.shfl_arena.specs.declared.shape.Shape.{Shape}
use Rattle.shfl_arena.specs.SeatModels.{ArenaId, SeatModel, fresh_seat}
use Rattle.shfl_arena.specs.Threads.{mode_held}

-- two lists say the same of how each lock is held
abbrev pub Agree : List (ℕ × Mode) → List (ℕ × Mode) → Type 0
Agree kept holds = (l : ℕ) → mode_held l kept ≡ mode_held l holds

-- a seat, the attributes of its thread, and the policy that goes with it
pub record TicketModel : Type 0 where
  pub seat : SeatModel (Unit {0})
  pub attr : Attr
  pub policy : Option PolicyModel

-- there is such a lock, it may be taken in this mode, and the seat has no step to make
pub record MayUseLock (lock : ℕ) (mode : Mode) (t : TicketModel) : Type 0 where
  pub rests : moving t.seat.own ≡ false
  pub below : lock < t.seat.arena.shape.locks
  pub mode_is : MayUse t.seat.arena.rules.form mode

abbrev pub fresh_ticket : ArenaId → ℕ → TicketModel
fresh_ticket id k = record { seat = fresh_seat id k; attr = no_waiter; policy = None }

-- these are the seats of one arena that was just opened, in order
pub record AreOpened (shape : Shape) (rules : Rules) (threads : ℕ) (tickets : List TicketModel) : Type 0 where
  pub id : ArenaId
  pub shape_is : id.shape ≡ shape
  pub rules_are : id.rules ≡ rules
  pub count : length tickets ≡ threads
  pub each : (k : ℕ) → k < length tickets → slice_get tickets k ≡ Some (fresh_ticket id k)

-- what an arena may be opened with: its locks and threads, the number of its form, and the limit of a batch
pub record MayOpenArena (locks threads form limit : ℕ) : Type 0 where
  pub some_locks : 0 < locks
  pub few_locks : locks ≤ 16777216
  pub some_threads : 0 < threads
  pub few_threads : threads ≤ most_passes
  pub known_form : form < 4
  pub some_limit : 0 < limit
  pub small_limit : limit ≤ 1024
