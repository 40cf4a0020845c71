-- A board and its passes, as clauses see them.
use Rattle.std.specs.Prelude.{◌≡◌, ℕ, List, [], map, true, slice_get, Option, Some, None}
use Rattle.atomic_table.specs.Seated.{TableId}
use Rattle.shfl_line.specs.declared.events.Mode.{Mode}
use Rattle.shfl_line.specs.declared.events.Mode.TheVariants.{Write, Read}
use Rattle.shfl_core.specs.declared.phase.Rules.{Rules}
use Rattle.shfl_core.specs.declared.phase.PassState.{PassState}
use Rattle.shfl_core.specs.Plan.{is_idle}
use Rattle.shfl_core.specs.Waiting.{idle}
use Rattle.shfl_table.specs.declared.view.Decision.{Decision}
use Rattle.shfl_table.specs.declared.kept.Action.{Action}
use Rattle.shfl_table.specs.declared.view.Given.{Given}
use Rattle.shfl_table.specs.declared.view.Part.{Part}
use Rattle.shfl_table.specs.Histories.{Continues, common_history}
use Rattle.shfl_table.specs.Places.{Every, place_index}

-- which board it is, and what its opening fixed: the rules of its lock and the attributes of its passes
pub record BoardId : Type 0 where
  pub table : TableId
  pub rules : Rules
  -- the attribute word of each pass
  pub attrs : List ℕ

pub record BoardModel : Type 0 where
  pub id : BoardId
  -- how many passes it has
  pub count : ℕ
  -- that of all its values
  pub initial_state : List ℕ

pub record PassModel (X : Type 0) : Type 0 where
  pub board : BoardId
  -- where the pass stands: phase, registers and park state
  pub own : PassState
  pub steps_taken : ℕ
  -- the words that its operations found, in their order; of a store, what it stored
  pub found : List ℕ
  -- what its steps asked the policy, with the choices
  pub decisions : List Decision
  -- how often it tried to take the lock without queueing
  pub attempts : ℕ
  -- that of all the board's values
  pub initial_state : List ℕ
  -- what it saw of the history of the values when it last held the lock
  pub history : List Action
  -- of each place that its hold gives it the value, or None while that is out
  pub values : List (Option X)

-- an idle pass of this board
abbrev pub IsIdleAt : {X : Type 0} → BoardId → PassModel X → Type 0
IsIdleAt id p = (p.board ≡ id) × (is_idle p.own.phase ≡ true) × (p.values ≡ [])

-- pass number k of a board that was just opened
abbrev pub fresh_pass : {X : Type 0} → List ℕ → BoardId → ℕ → PassModel X
fresh_pass initial_state board k = record {
  board = board;
  own = idle k;
  steps_taken = 0;
  found = [];
  decisions = [];
  attempts = 0;
  initial_state = initial_state;
  history = [];
  values = [];
}

-- how the history of a value may go on from the one seen: by own actions, and not at all under Read
abbrev pub GrowsUnder : Option Mode → ℕ → List Action → List Action → Type 0
GrowsUnder None k seen t = Unit {0}
GrowsUnder (Some Write) k seen t = Continues k seen t
GrowsUnder (Some Read) k seen t = t ≡ seen

-- the pass has this value in the place
abbrev pub HasAt : {X : Type 0} → PassModel X → ℕ → X → Type 0
HasAt p place x = slice_get p.values (place_index p.own.reg.mode place) ≡ Some (Some x)

-- the value may be in a place of the pass, which holds the lock
abbrev pub MayHave : {X : Type 0} → (X → List ℕ) → (X → List Action) → PassModel X → X → Type 0
MayHave initial_state history p x = (initial_state x ≡ p.initial_state) × GrowsUnder (Some p.own.reg.mode) p.own.reg.me p.history (history x)

-- all values are in, with one history
abbrev pub AreIn : {X : Type 0} → (X → List Action) → List Action → List (Option X) → Type 0
AreIn {X} history seen values = (xs : List X) × (values ≡ map Some xs) × Every (λ x. history x ≡ common_history history seen xs) xs

-- what a pass gives back: its number, and the history that it saw last
abbrev pub as_given : {X : Type 0} → PassModel X → Given
as_given p = record { number = p.own.reg.me; history = p.history }

-- and what it did: its operations and what they found, its attempts, and what it asked the policy
abbrev pub as_part : {X : Type 0} → PassModel X → Part
as_part p = record { number = p.own.reg.me; steps_taken = p.steps_taken; found = p.found; attempts = p.attempts; decisions = p.decisions }

-- a board that is closing: the passes that it has taken back, and what each of them did
pub record ClosingModel : Type 0 where
  pub board : BoardModel
  pub back : List Given
  pub parts : List Part
