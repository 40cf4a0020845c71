-- The directories before the first call.
use Rattle.std.proofs.Common.{◌≡◌, ℕ, ◌<◌, ◌≤◌, List, [], ◌∷◌, length, All, sym, ap, ◌∙◌, subst, arith}
use Rattle.dir_table.specs.Directory.{Directory}
use Rattle.dir_table.specs.Numbers.{state_numbers}
use Rattle.trace_text.specs.declared.trace.Trace.{Trace}
use Rattle.trace_text.specs.Histories.{beginning}
use Rattle.rw_cell.specs.RwCells.{first_state}
use Rattle.shfl_workers.specs.Opened.{directory_for}

module _ (t : Trace) where
  -- each is in the state of the first
  pub all_alike : (dirs : List Directory) → All (λ d. d ≡ directory_for t) dirs → All (λ d. state_numbers d ≡ first_state state_numbers dirs) dirs
  all_alike [] all = λ k d lt. absurd (omega (arith, lt))
  all_alike (x ∷ xs) all = λ k d lt. ap state_numbers (all k d lt ∙ sym (all 0 x (omega arith)))

  -- which is that of the beginning
  pub first_empty : (dirs : List Directory) → 0 < length dirs → All (λ d. d ≡ directory_for t) dirs → first_state state_numbers dirs ≡ state_numbers (beginning t)
  first_empty [] some all = absurd (omega (arith, some))
  first_empty (x ∷ xs) some all = ap state_numbers (all 0 x (omega arith))

  pub enough_left : (n : ℕ) (dirs : List Directory) → n ≤ length t.calls.items → All (λ d. d ≡ directory_for t) dirs → All (λ d. n ≤ d.spare) dirs
  enough_left n dirs few all = λ k d lt. subst (λ (x : Directory). n ≤ x.spare) (sym (all k d lt)) few
