-- What an operation does with the values: by the hold before and after, a pass gains places, gives them back, or keeps them.
use Rattle.std.specs.Prelude.{◌≡◌, ℕ, Bool, false, List, [], ◌++◌, map, length, slice_index, Option, Some, None}
use Rattle.atomic_table.specs.Table.{Me, Step}
use Rattle.shfl_line.specs.declared.events.Mode.{Mode}
use Rattle.shfl_line.specs.declared.events.Mode.TheVariants.{Read}
use Rattle.shfl_core.specs.declared.phase.PassState.{PassState}
use Rattle.shfl_core.specs.declared.words.Access.{Access}
use Rattle.shfl_core.specs.declared.words.Word.TheVariants.{Attr as AttrOf}
use Rattle.shfl_core.specs.Words.{site, is_store}
use Rattle.shfl_core.specs.Plan.{plan, attempt_plan}
use Rattle.shfl_core.specs.Take.{take, attempted}
use Rattle.shfl_core.specs.Lawful.{Terms, Formed, InRange}
use Rattle.shfl_table.specs.declared.kept.Action.{Action}
use Rattle.shfl_table.specs.declared.view.View.{View}
use Rattle.shfl_laws.specs.Holds.{hold_of}
use Rattle.shfl_table.specs.Places.{first_place, place_count, numbered, Every}
use Rattle.shfl_table.specs.FoundInRun.{FoundInRun}
use Rattle.shfl_table.specs.Histories.{HasSeen, Continues, common_history, IsCurrent}
use Rattle.shfl_table.specs.Views.{Deeds, attempt_deeds, number, part_of, step_deeds, view_after}

module _ {V : Type 0} (initial_state : V → List ℕ) (history : V → List Action) where
  -- the hold came: so did its places
  pub record GainsHold (qs : Deeds) (mode : Mode) (slots : ℕ) (m : Me (Option V) View) (q : PassState) (m' : Me (Option V) View) : Type 0 where
    pub values : List V
    pub told : List Action
    pub long : length values ≡ place_count (Some mode) (number m.0) slots
    pub carried : m'.1 ≡ numbered (first_place (Some mode) (number m.0)) (map Some values) ++ m.1
    pub alike : Every (IsCurrent initial_state history m.0.initial_state told) values
    pub knew : HasSeen told (number m.0) m.0.history
    pub view : m'.0 ≡ view_after qs m.0 q told

  -- any operation: by the hold before and after, places come, go, or stay
  pub record MovesValues (next : ℕ → PassState) (qs : ℕ → Deeds) (slots : ℕ) (m : Me (Option V) View) (n : ℕ) (m' : Me (Option V) View) : Type 0 where
    pub stays : hold_of m.0.pass ≡ hold_of (next n) → (m'.1 ≡ m.1) × (m'.0 ≡ view_after (qs n) m.0 (next n) m.0.history)
    pub gains : (mode : Mode) → hold_of m.0.pass ≡ None → hold_of (next n) ≡ Some mode → GainsHold (qs n) mode slots m (next n) m'
    pub frees : (mode : Mode) → hold_of m.0.pass ≡ Some mode → hold_of (next n) ≡ None → (i : ℕ) (xs : List V) → m.1 ≡ numbered i (map Some xs) → (m'.1 ≡ []) × (m'.0 ≡ view_after (qs n) m.0 (next n) (common_history history m.0.history xs))

  -- a pass that may free the hold: all its values are in, of one history that goes on from the one seen
  pub record MayFree (mode : Mode) (slots : ℕ) (m : Me (Option V) View) : Type 0 where
    pub values : List V
    pub carried : m.1 ≡ numbered (first_place (Some mode) (number m.0)) (map Some values)
    pub long : length values ≡ place_count (Some mode) (number m.0) slots
    pub alike : Every (IsCurrent initial_state history m.0.initial_state (common_history history m.0.history values)) values
    pub grew : Continues (number m.0) m.0.history (common_history history m.0.history values)
    pub read : mode ≡ Read → common_history history m.0.history values ≡ m.0.history

  -- what is told besides: that the run has the found word there, its form, an attribute word's value, and that the next word is there
  pub record FitsWords (t : Terms) (a : Access) (next : ℕ → PassState) (m : Me (Option V) View) (n : ℕ) : Type 0 where
    pub there : FoundInRun t.rules t.attrs (part_of m.0) m.0.history m.0.pass a n
    pub form : is_store a ≡ false → Formed (site a) n
    pub attr : is_store a ≡ false → (q : ℕ) → site a ≡ AttrOf q → n ≡ slice_index t.attrs q
    pub stays : (next n).reg.me ≡ number m.0
    pub range : InRange t (number m.0) (next n)

  abbrev pub access_play : Terms → Access → (ℕ → PassState) → (ℕ → Deeds) → Step (Option V) → Me (Option V) View → ℕ → Me (Option V) View → Type 0
  access_play t a next qs st m n m' = FitsWords t a next m n × MovesValues next qs st.slots m n m'

  -- the step of a pass
  abbrev pub step_play : Terms → PassState → Bool → Step (Option V) → Me (Option V) View → ℕ → Me (Option V) View → Type 0
  step_play t q choice st m n m' = access_play t (plan t.rules (number m.0) q) (λ i. take t.rules (number m.0) q i choice) (step_deeds t.rules q choice) st m n m'

  -- the one operation of an attempt
  abbrev pub attempt_play : Terms → Mode → Step (Option V) → Me (Option V) View → ℕ → Me (Option V) View → Type 0
  attempt_play t mode st m n m' = access_play t (attempt_plan mode) (attempted mode m.0.pass.reg) attempt_deeds st m n m'
