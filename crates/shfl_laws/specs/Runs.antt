-- What threads did to a lock since its opening: a list of changes, and the world that these make.
use Rattle.std.specs.Prelude.{◌≡◌, ℕ, ◌<◌, Bool, true, List, [], ◌∷◌, ◌++◌, length}
use mathlib.Core.Option.{some}
use lib.ListN.{get_elem?}
use Rattle.shfl_line.specs.declared.events.Form.{Form}
use Rattle.shfl_line.specs.declared.events.Mode.{Mode}
use Rattle.shfl_line.specs.declared.words.Attr.{Attr}
use Rattle.shfl_core.specs.declared.phase.Phase.TheVariants.{Idle}
use Rattle.shfl_core.specs.declared.phase.PassState.{PassState}
use Rattle.shfl_core.specs.declared.phase.Rules.{Rules}
use Rattle.shfl_core.specs.Plan.{moving}
use Rattle.shfl_core.specs.Words.{wide}
use Rattle.shfl_core.specs.Waiting.{MayUse, blank, idle}
use Rattle.shfl_core.specs.Worlds.{World, placed_at, stepped, tried, Acquire, Release, Step}
use Rattle.shfl_laws.specs.Moves.{first_seated, with_one_more}
use Rattle.shfl_laws.specs.Seen.{SeenAs, Alike, Enters, Leaves}
use Rattle.shfl_laws.specs.Stealing.{stealing_disabled}
use Rattle.shfl_laws.specs.Changes.{Change, Moves, Tries, Disables, Fills, Replaces, after_changes, EachMayChange}

-- the world is what these changes make of the opening, where one pass has its seat
pub record IsRun (rules : Rules) (attrs : List Attr) (changes : List Change) (w : World) : Type 0 where
  pub may : EachMayChange rules.form changes
  pub made : after_changes rules (first_seated attrs) changes ≡ w

-- the acquire or the release by which a pass stands where it does, where the others still see it as it stood before
abbrev pub unseen_move : {form : Form} {own seen : PassState} → ℕ → SeenAs form own seen → List Change
unseen_move p (Alike same) = []
unseen_move p (Enters mode may rests same) = Moves (Acquire p mode) ∷ []
unseen_move p (Leaves rests same) = Moves (Release p) ∷ []

-- what a step of the pass adds to the changes: that, and the step with its choice
abbrev pub step_changes : {form : Form} {own seen : PassState} → ℕ → Bool → SeenAs form own seen → List Change
step_changes p choice as_seen = unseen_move p as_seen ++ Moves (Step p choice) ∷ []

-- each thing that threads do to the words goes on with the run, by the changes that are named
pub record RunsGoOn (rules : Rules) (attrs : List Attr) : Type 0 where
  pub opens : IsRun rules attrs [] (first_seated attrs)
  -- a step of a pass, whatever its phase and park state, and however the others see it
  pub steps : (changes : List Change) (w : World) (p : ℕ) (own seen : PassState) (choice : Bool) → IsRun rules attrs changes w
      → get_elem? w.passes p ≡ some seen → (as_seen : SeenAs rules.form own seen) → moving own ≡ true
      → IsRun rules attrs (changes ++ step_changes p choice as_seen) (stepped rules w p own choice)
  -- the one operation of an attempt
  pub attempts : (changes : List Change) (w : World) (p : ℕ) (q : PassState) (mode : Mode) → IsRun rules attrs changes w
      → get_elem? w.passes p ≡ some q → q.phase ≡ Idle → MayUse rules.form mode
      → IsRun rules attrs (changes ++ Tries p mode ∷ []) (tried w p q mode)
  -- stealing disabled beside the rows
  pub disabling : (changes : List Change) (w : World) (p : ℕ) → IsRun rules attrs changes w
      → IsRun rules attrs (changes ++ Disables p ∷ []) (stealing_disabled w)
  -- the next pass gets its seat, and an idle pass is given back
  pub seats : (changes : List Change) (w : World) → IsRun rules attrs changes w → wide (length w.passes) < length w.words
      → IsRun rules attrs (changes ++ Fills ∷ []) (with_one_more w)
  pub returns : (changes : List Change) (w : World) (p : ℕ) (q : PassState) → IsRun rules attrs changes w
      → get_elem? w.passes p ≡ some q → q.phase ≡ Idle → IsRun rules attrs (changes ++ Replaces p (blank p) ∷ []) (placed_at w p (idle p))
