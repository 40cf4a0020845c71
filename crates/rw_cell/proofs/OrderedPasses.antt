-- Passes in the order of their numbers.
use Rattle.std.proofs.Common.{◌≡◌, ℕ, zero, suc, ◌+◌, ◌<◌, ◌≤◌, List, [], ◌∷◌, map, length, get_or, slice_get, slice_index_or, Some, Contains, sym, refl, ap, ◌∙◌, subst, arith}
use Rattle.std.specs.List.{All}
use Rattle.std.proofs.lemmas.List.{length-map}
use Rattle.std.proofs.lemmas.Option.{get_or_from_slice_get}
use Rattle.rw_cell.specs.RwCells.{RwPassModel, number, AreAll, AreInOrder}

-- what is true at each place is true of each element
pub all-places : {A : Type 0} (P : A → Type 0) (f : ℕ → A) (xs : List A) → ((k : ℕ) → k < length xs → slice_get xs k ≡ Some (f k)) → ((k : ℕ) → P (f k)) → All P xs
all-places P f xs at each k d h = subst P (sym (get_or_from_slice_get xs k (f k) d (at k h))) (each k)

module _ {E : Type 0} where
  number-at : (passes : List (RwPassModel E)) (k n : ℕ) (d : RwPassModel E) → k < length passes → slice_index_or (map number passes) k n ≡ number (slice_index_or passes k d)
  number-at [] k n d h = absurd (omega arith)
  number-at (p ∷ ps) zero n d h = refl
  number-at (p ∷ ps) (suc k) n d h = number-at ps k n d (omega arith)

  -- they are all, where they are as many as the cell has
  pub all_in_order : (count : ℕ) (passes : List (RwPassModel E)) → length passes ≡ count → AreInOrder passes → AreAll count passes
  all_in_order count [] long order k h = absurd (omega arith)
  all_in_order count (p ∷ ps) long order k h =
      let here : k < length (p ∷ ps) = omega arith in
      (k, (let l = length-map (p ∷ ps) number in omega arith), number-at (p ∷ ps) k k p here ∙ order k p here)
