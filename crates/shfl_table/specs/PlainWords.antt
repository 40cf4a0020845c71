-- What the rule of a board says in plain words.
use Rattle.std.specs.Prelude.{ℕ, List, Option}
use Rattle.atomic_table.specs.Table.{State}
use Rattle.shfl_line.specs.Line.{Line, IsWellFormed}
use Rattle.shfl_core.specs.declared.phase.PassState.{PassState}
use Rattle.shfl_core.specs.Lawful.{Terms}
use Rattle.shfl_laws.specs.Headline.{Headline}
use Rattle.shfl_laws.specs.SeenAlike.{EachSeenAs, with_passes}
use Rattle.shfl_table.specs.declared.kept.Action.{Action}
use Rattle.shfl_table.specs.declared.view.View.{View}
use Rattle.shfl_table.specs.Views.{passes_from}
use Rattle.shfl_table.specs.BoardRule.{BoardRule, world_of}
use Rattle.shfl_table.specs.ThreadRuns.{HasRun}

-- the words and the passes show one line, of which the plain words hold: with the passes as others see them, and with the
-- passes as they stand, wherever a pass stands that is seen so
pub record ShowsHeadline {V : Type 0} (t : Terms) (s : State (Option V) View) : Type 0 where
  pub shown : Line
  pub well_formed : IsWellFormed t.rules.limit shown
  pub seen : Headline t.rules.limit (world_of s) shown.line shown.hand
  pub standing : (passes : List PassState) → EachSeenAs t.rules.form passes (passes_from 0 s.views)
      → Headline t.rules.limit (with_passes s.words passes) shown.line shown.hand

-- so does every board, between any two operations
abbrev pub BoardHeadline : {V : Type 0} → (V → List ℕ) → (V → List Action) → Type 0
BoardHeadline {V} initial_state history = (t : Terms) (r : List ℕ) (s : State (Option V) View) → BoardRule initial_state history t r s → ShowsHeadline t s

-- every board has a run, between any two operations, and the history of its values is what the holds of that run have made
abbrev pub BoardHasRun : {V : Type 0} → (V → List ℕ) → (V → List Action) → Type 0
BoardHasRun {V} initial_state history = (t : Terms) (r : List ℕ) (s : State (Option V) View)
    → (rule : BoardRule initial_state history t r s) → HasRun t s.words s.views rule.total
