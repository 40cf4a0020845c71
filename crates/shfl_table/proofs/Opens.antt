-- The table's first state, with all values at home.
use Rattle.std.proofs.Common.{◌≡◌, ℕ, zero, suc, ◌<◌, List, [], ◌∷◌, map, length, Some, refl, sym, subst, inr, arith}
use mathlib.Core.Option.{some, some-injective, some-ne-none}
use lib.ListN.{get_elem?}
use Rattle.atomic_table.specs.Table.{opening}
use Rattle.shfl_core.specs.Waiting.{idle}
use Rattle.shfl_core.specs.Lawful.{Terms, Lawful}
use Rattle.shfl_table.specs.declared.kept.Action.{Action}
use Rattle.shfl_table.specs.declared.view.View.{View}
use Rattle.shfl_table.specs.Places.{Every}
use Rattle.shfl_table.specs.BoardRule.{BoardRule, IsHome, SeatFacts}
use Rattle.shfl_table.specs.Histories.{IsCurrent}
use Rattle.shfl_table.specs.Views.{first_view}
use Rattle.shfl_table.specs.ThreadRuns.{HasRun}
use Rattle.shfl_table.proofs.Histories.{knew_itself}

module _ {V : Type 0} (initial_state : V → List ℕ) (history : V → List Action) (r : List ℕ) where
  home-at : (values : List V) → Every (IsCurrent initial_state history r []) values → (k : ℕ) → k < length (map some (map Some values)) → IsHome initial_state history r [] (map some (map Some values)) k
  home-at [] a k h = absurd (omega arith)
  home-at (x ∷ xs) a zero h = (x, refl, a.0.0, a.0.1)
  home-at (x ∷ xs) a (suc k) h = home-at xs a.1 k (omega arith)

  pub opens : (t : Terms) (words : List ℕ) (values : List V) → Lawful t (record { words = words; passes = idle 0 ∷ [] }) → HasRun t words (first_view t.attrs r ∷ []) [] → Every (IsCurrent initial_state history r []) values → BoardRule initial_state history t r (opening words (map Some values) (first_view t.attrs r))
  opens t words values ok run alike = record {
    total = [];
    lawful = ok;
    run = run;
    free = λ out k small. inr (home-at values alike k small);
    unborn = λ k h. refl;
    seated = only;
  }
    where
      only : (seat : ℕ) (v : View) → get_elem? (first_view t.attrs r ∷ []) seat ≡ some v → SeatFacts r [] (first_view t.attrs r ∷ []) seat v
      only zero v e = subst (SeatFacts r [] (first_view t.attrs r ∷ []) 0) (some-injective (first_view t.attrs r) v e) (record { last = λ _ _. refl; root_is = λ _. refl; knew = λ _. knew_itself 0 []; holder = λ _ _. refl; back = λ g h. absurd h })
      only (suc seat) v e = absurd (some-ne-none v (sym e))
