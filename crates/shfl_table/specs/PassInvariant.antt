-- What a pass's type keeps beside its seat.
use Rattle.std.specs.Prelude.{◌≡◌, ℕ, ◌<◌, true, List, [], length, slice_index, Option, Some}
use Rattle.atomic_table.specs.Table.{Me}
use Rattle.atomic_table.specs.Seated.{TableId}
use Rattle.shfl_line.specs.declared.events.Mode.{Mode}
use Rattle.shfl_core.specs.declared.phase.Rules.{Rules}
use Rattle.shfl_core.specs.declared.phase.Phase.TheVariants.{Decide}
use Rattle.shfl_core.specs.declared.phase.PassState.{PassState}
use Rattle.shfl_core.specs.Words.{index, site}
use Rattle.shfl_core.specs.Plan.{plan}
use Rattle.shfl_laws.specs.Seen.{SeenAs}
use Rattle.shfl_table.specs.declared.kept.Action.{Action}
use Rattle.shfl_table.specs.declared.view.View.{View}
use Rattle.shfl_laws.specs.Holds.{hold_of, is_releasing}
use Rattle.shfl_table.specs.Places.{first_place, place_count, numbered, Every}
use Rattle.shfl_table.specs.PassModel.{GrowsUnder, AreIn}

-- a value that is in has the initial state of all, and a history that the hold allows
abbrev pub IsGoodUnder : {X : Type 0} → (X → List ℕ) → (X → List Action) → List ℕ → Option Mode → ℕ → List Action → Option X → Type 0
IsGoodUnder {X} initial_state history r h k seen y = (x : X) → y ≡ Some x → (initial_state x ≡ r) × GrowsUnder h k seen (history x)

-- the places that a pass carries are those of its hold
pub record Carries {X : Type 0} (initial_state : X → List ℕ) (history : X → List Action) (slots : ℕ) (own : PassState) (v : View) (c : List (ℕ × Option X)) : Type 0 where
  pub values : List (Option X)
  pub is : c ≡ numbered (first_place (hold_of own) own.reg.me) values
  pub long : length values ≡ place_count (hold_of own) own.reg.me slots
  pub good : Every (IsGoodUnder initial_state history v.initial_state (hold_of own) own.reg.me v.history) values
  -- where it gives the lock back, all are in, with one history
  pub leaving : is_releasing own.phase ≡ true → AreIn history v.history values

pub record PassInvariant {X : Type 0} (initial_state : X → List ℕ) (history : X → List Action) (rules : Rules) (own : PassState) (id : TableId) (me : Me (Option X) View) : Type 0 where
  pub live : me.0.live ≡ true
  -- others see the pass where it stands, or where it stood before it entered or left
  pub seen : SeenAs rules.form own me.0.pass
  -- the word of its next step is there
  pub range : index (site (plan rules own.reg.me own)) < id.words
  pub carries : Carries initial_state history id.slots own me.0 me.1
  pub back : me.0.back ≡ []
  pub parts : me.0.parts ≡ []
  -- where it asks of a candidate, it has that one's attributes
  pub asks : own.phase ≡ Decide → own.reg.seen ≡ slice_index me.0.attrs own.reg.cand
