-- What the holds of a run have made: one lawful run of the lock, and the one history is what the holds of that run have put into
-- it, in the order in which they ended.
use Rattle.std.specs.Prelude.{◌≡◌, ◌≢◌, ℕ, true, List, [], ◌∷◌, ◌++◌, Some, None}
use Rattle.shfl_line.specs.declared.events.Mode.TheVariants.{Write}
use Rattle.shfl_line.specs.declared.words.Attr.{Attr}
use Rattle.shfl_core.specs.declared.phase.Rules.{Rules}
use Rattle.shfl_core.specs.Plan.{is_idle}
use Rattle.shfl_core.specs.Worlds.{World, known}
use Rattle.shfl_laws.specs.Changes.{Change, after_change}
use Rattle.shfl_laws.specs.Holds.{hold_of}
use Rattle.shfl_laws.specs.Moves.{first_seated}
use Rattle.shfl_laws.specs.Runs.{IsRun}
use Rattle.shfl_table.specs.declared.kept.Action.{Action}
use Rattle.shfl_table.specs.Histories.{AllBy}

-- a change, with the actions that a hold which ends there has made
pub record RunEvent : Type 0 where
  pub change : Change
  pub made : List Action

abbrev pub changes_of : List RunEvent → List Change
changes_of [] = []
changes_of (e ∷ rest) = e.change ∷ changes_of rest

-- all that was made, in the order in which the holds ended
abbrev pub history_of : List RunEvent → List Action
history_of [] = []
history_of (e ∷ rest) = e.made ++ history_of rest

-- at this change one pass ends its hold as a writer, and all that was made is its own
pub record EndsHold (t : Rules) (w : World) (e : RunEvent) : Type 0 where
  pub worker : ℕ
  pub wrote : hold_of (known w.passes worker) ≡ Some Write
  pub ended : hold_of (known (after_change t w e.change).passes worker) ≡ None
  pub own : AllBy worker e.made

-- only where a writer's hold ends is anything made
abbrev pub MakesInHold : Rules → World → RunEvent → Type 0
MakesInHold t w e = e.made ≢ [] → EndsHold t w e

-- so it is at each of these, from this world on, in their order
abbrev pub EachMakesInHold : Rules → World → List RunEvent → Type 0
EachMakesInHold t w [] = Unit {0}
EachMakesInHold t w (e ∷ rest) = MakesInHold t w e × EachMakesInHold t (after_change t w e.change) rest

-- the run leads from the opening with these attributes to the world w, and the history is what its holds have made
pub record RunMakes (rules : Rules) (attrs : List Attr) (events : List RunEvent) (w : World) (history : List Action) : Type 0 where
  pub run : IsRun rules attrs (changes_of events) w
  pub in_holds : EachMakesInHold rules (first_seated attrs) events
  pub made : history_of events ≡ history

-- a lock that opens with these attributes came to rest by one run, and its holds have made the history
pub record RanAs (rules : Rules) (attrs : List Attr) (history : List Action) : Type 0 where
  pub events : List RunEvent
  pub world : World
  pub makes : RunMakes rules attrs events world history
  pub idle : (p : ℕ) → is_idle (known world.passes p).phase ≡ true
