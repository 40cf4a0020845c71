-- The queue's head disables stealing again, beside its steps.
use Rattle.std.specs.Prelude.{ℕ, List, Option}
use Rattle.atomic_table.specs.Table.{Me, Step}
use Rattle.shfl_core.specs.Lawful.{Terms}
use Rattle.shfl_laws.specs.Stealing.{disable_plan}
use Rattle.shfl_table.specs.declared.kept.Action.{Action}
use Rattle.shfl_table.specs.declared.view.View.{View}
use Rattle.shfl_table.specs.ValueMoves.{access_play}
use Rattle.shfl_table.specs.Views.{no_deeds}

-- the operation of a pass that stands as it stood
abbrev pub disabling_play : {V : Type 0} → (V → List ℕ) → (V → List Action) → Terms → Step (Option V) → Me (Option V) View → ℕ → Me (Option V) View → Type 0
disabling_play initial_state history t st m n m' = access_play initial_state history t disable_plan (λ _. m.0.pass) no_deeds st m n m'
