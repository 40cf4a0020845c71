-- What each seat at the table knows, and how it changes.
use Rattle.std.specs.Prelude.{◌≡◌, ◌⊎◌, ℕ, suc, ◌+◌, Bool, true, false, cond, List, [], ◌∷◌, ◌++◌}
use mathlib.Core.Option.{some}
use lib.ListN.{get_elem?}
use Rattle.shfl_core.specs.declared.phase.PassState.{PassState}
use Rattle.shfl_core.specs.declared.phase.Ask.{Ask}
use Rattle.shfl_core.specs.declared.phase.Ask.TheVariants.{Nothing}
use Rattle.shfl_core.specs.Waiting.{idle, ask}
use Rattle.shfl_core.specs.declared.phase.Rules.{Rules}
use Rattle.shfl_table.specs.declared.view.Decision.{Decision}
use Rattle.shfl_table.specs.declared.kept.Action.{Action}
use Rattle.shfl_table.specs.declared.view.Given.{Given}
use Rattle.shfl_table.specs.declared.view.Part.{Part}
use Rattle.shfl_table.specs.declared.view.View.{View}

abbrev pub number : View → ℕ
number v = v.pass.reg.me

-- the pass of a seat; a spent seat has an idle one, with its number
abbrev pub pass_at : ℕ → View → PassState
pass_at i v = cond v.live v.pass (idle i)

abbrev pub passes_from : ℕ → List View → List PassState
passes_from i [] = []
passes_from i (v ∷ vs) = pass_at i v ∷ passes_from (suc i) vs

abbrev pub new_view : List ℕ → List ℕ → ℕ → View
new_view attrs initial_state k = record {
  pass = idle k;
  steps_taken = 0;
  found = [];
  decisions = [];
  attempts = 0;
  attrs = attrs;
  initial_state = initial_state;
  history = [];
  live = true;
  last = true;
  back = [];
  parts = [];
}

abbrev pub first_view : List ℕ → List ℕ → View
first_view attrs initial_state = new_view attrs initial_state 0

-- the seat that splits off the next one is the last no more
abbrev pub not_last : View → View
not_last v = record v { last = false }

abbrev pub next_view : View → View
next_view v = new_view v.attrs v.initial_state (number v + 1)

-- what a step asks the policy, with the choice
abbrev pub decision_on : Bool → Ask → List Decision
decision_on choice Nothing = []
decision_on choice a = record { ask = a; choice = choice } ∷ []

abbrev pub step_decisions : Rules → PassState → Bool → List Decision
step_decisions r q choice = decision_on choice (ask r q)

-- what an operation adds to what its pass did: the word that it found, or, of a store, stored, and decisions, or an attempt
pub record Deeds : Type 0 where
  pub found : ℕ
  pub decisions : List Decision
  pub attempts : Bool

abbrev pub step_deeds : Rules → PassState → Bool → ℕ → Deeds
step_deeds r q choice n = record { found = n; decisions = step_decisions r q choice; attempts = false }

abbrev pub attempt_deeds : ℕ → Deeds
attempt_deeds n = record { found = n; decisions = []; attempts = true }

abbrev pub no_deeds : ℕ → Deeds
no_deeds n = record { found = n; decisions = []; attempts = false }

-- the view after an operation that led to this pass state, with what it adds and this history
abbrev pub view_after : Deeds → View → PassState → List Action → View
view_after qs v q told = record v {
  pass = q;
  steps_taken = v.steps_taken + 1;
  found = v.found ++ qs.found ∷ [];
  decisions = v.decisions ++ qs.decisions;
  attempts = cond qs.attempts (v.attempts + 1) v.attempts;
  history = told;
}

-- what a pass gives back
abbrev pub given_view : View → Given
given_view v = record { number = v.pass.reg.me; history = v.history }

-- and what it did
abbrev pub part_of : View → Part
part_of v = record { number = v.pass.reg.me; steps_taken = v.steps_taken; found = v.found; attempts = v.attempts; decisions = v.decisions }

abbrev pub with_given : View → View → View
with_given v w = record v { back = record { number = w.pass.reg.me; history = w.history } ∷ v.back; parts = part_of w ∷ v.parts }

abbrev pub spent_view : View
spent_view = record (new_view [] [] 0) { live = false; last = false }

abbrev pub IsAmong : Given → List Given → Type 0
IsAmong g [] = ⊥
IsAmong g (x ∷ xs) = (g ≡ x) ⊎ IsAmong g xs

abbrev pub IsSpent : List View → ℕ → Type 0
IsSpent vs k = (u : View) × (get_elem? vs k ≡ some u) × (u.live ≡ false)
