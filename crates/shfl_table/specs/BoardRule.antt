-- The rule under which every word, view and value changes: the words and the passes are a lawful world, and each value is at home
-- or out with a pass that holds.
use Rattle.std.specs.Prelude.{◌≡◌, ◌≢◌, ◌⊎◌, ℕ, ◌+◌, ◌≤◌, ◌<◌, true, List, [], length, Option, Some, None}
use mathlib.Core.Option.{some}
use lib.ListN.{get_elem?}
use Rattle.atomic_table.specs.Table.{State}
use Rattle.shfl_line.specs.declared.events.Mode.TheVariants.{Write, Read}
use Rattle.shfl_core.specs.declared.phase.PassState.{PassState}
use Rattle.shfl_core.specs.Worlds.{World, known}
use Rattle.shfl_core.specs.Lawful.{Terms, Lawful}
use Rattle.shfl_table.specs.declared.kept.Action.{Action}
use Rattle.shfl_table.specs.declared.view.Given.{Given}
use Rattle.shfl_table.specs.declared.view.View.{View}
use Rattle.shfl_laws.specs.Holds.{hold_of}
use Rattle.shfl_table.specs.Histories.{actions_by, HasSeen}
use Rattle.shfl_table.specs.Views.{passes_from, IsAmong, IsSpent}
use Rattle.shfl_table.specs.ThreadRuns.{HasRun}

-- what holds of one seat beside the whole history
pub record SeatFacts (r : List ℕ) (total : List Action) (views : List View) (seat : ℕ) (v : View) : Type 0 where
  -- the last pass stands in the last seat, so that the next one has the next number
  pub last : v.live ≡ true → v.last ≡ true → seat + 1 ≡ length views
  pub root_is : v.live ≡ true → v.initial_state ≡ r
  -- what it saw is a beginning of the whole, with all its own actions
  pub knew : v.live ≡ true → HasSeen total seat v.history
  -- a holder has seen the whole
  pub holder : v.live ≡ true → hold_of v.pass ≢ None → v.history ≡ total
  -- the passes that it took back are spent, and what they saw is a beginning of the whole
  pub back : (g : Given) → IsAmong g v.back → IsSpent views g.number × HasSeen total g.number g.history

-- the places at the table, each with its value unless that is out
abbrev pub Homes : Type 0 → Type 0
Homes V = List (mathlib.Core.Option.Option (Option V))

-- the place k has a value of this initial state and history
abbrev pub IsHome : {V : Type 0} → (V → List ℕ) → (V → List Action) → List ℕ → List Action → Homes V → ℕ → Type 0
IsHome {V} initial_state history r t hs k = (x : V) × (get_elem? hs k ≡ some (some (Some x))) × (initial_state x ≡ r) × (history x ≡ t)

-- while no writer holds, each place has its value, or its own pass reads
abbrev pub AreHome : {V : Type 0} → (V → List ℕ) → (V → List Action) → List ℕ → List Action → List PassState → Homes V → Type 0
AreHome initial_state history r t passes hs = ((q : ℕ) → hold_of (known passes q) ≢ Some Write) → (k : ℕ) → k < length hs → (hold_of (known passes k) ≡ Some Read) ⊎ IsHome initial_state history r t hs k

abbrev pub world_of : {V : Type 0} → State (Option V) View → World
world_of s = record { words = s.words; passes = passes_from 0 s.views }

pub record BoardRule {V : Type 0} (initial_state : V → List ℕ) (history : V → List Action) (t : Terms) (r : List ℕ) (s : State (Option V) View) : Type 0 where
  -- the whole history
  pub total : List Action
  pub lawful : Lawful t (world_of s)
  -- the list of what was done since the opening, whose holds have made the whole history
  pub run : HasRun t s.words s.views total
  pub free : AreHome initial_state history r total (passes_from 0 s.views) s.homes
  -- a pass that isn't yet there did nothing
  pub unborn : (k : ℕ) → length s.views ≤ k → actions_by k total ≡ []
  pub seated : (seat : ℕ) (v : View) → get_elem? s.views seat ≡ some v → SeatFacts r total s.views seat v
