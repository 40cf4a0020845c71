-- What is true of each pass, and passes given back.
use Rattle.std.proofs.Common.{◌≡◌, ℕ, zero, suc, ◌<◌, List, [], ◌∷◌, map, length, slice_get, slice_index_or, Some, sym, refl, ◌∙◌, subst, arith, Contains, inl, inr}
use Rattle.std.specs.List.{All}
use Rattle.std.proofs.lemmas.List.Elements.{All-nil, All-cons}
use Rattle.std.proofs.lemmas.List.{length-map}
use Rattle.std.proofs.lemmas.Option.{get_or_from_slice_get}
use Rattle.shfl_table.specs.declared.view.Given.{Given}
use Rattle.shfl_table.specs.Views.{IsAmong}
use Rattle.shfl_table.specs.Histories.{HasSeen}
use Rattle.shfl_table.specs.declared.kept.Action.{Action}
use Rattle.shfl_cell.specs.Cells.{CellPassModel, number, given, AreAll, AreInOrder}

-- a pass that is among these is given back
given-at : (passes : List CellPassModel) (k i d : ℕ) → i < length (map number passes) → slice_index_or (map number passes) i d ≡ k → (g : Given) × IsAmong g (map given passes) × (g.number ≡ k)
given-at [] k i d h is = absurd (omega arith)
given-at (p ∷ ps) k zero d h is = (given p, inl refl, is)
given-at (p ∷ ps) k (suc i) d h is = let r = given-at ps k i d (omega arith) is in (r.0, inr r.1, r.2)

pub given-of : (passes : List CellPassModel) (k : ℕ) → Contains (map number passes) k → (g : Given) × IsAmong g (map given passes) × (g.number ≡ k)
given-of passes k has = given-at passes k has.0 k has.1 has.2

pub seen-of : (total : List Action) (passes : List CellPassModel) → ((g : Given) → IsAmong g (map given passes) → HasSeen total g.number g.history) → All (λ p. HasSeen total (number p) p.seen) passes
seen-of total [] each = All-nil (λ p. HasSeen total (number p) p.seen)
seen-of total (p ∷ ps) each = All-cons (λ p. HasSeen total (number p) p.seen) p ps (each (given p) (inl refl)) (seen-of total ps (λ g h. each g (inr h)))

number-at : (passes : List CellPassModel) (k n : ℕ) (d : CellPassModel) → k < length passes → slice_index_or (map number passes) k n ≡ number (slice_index_or passes k d)
number-at [] k n d h = absurd (omega arith)
number-at (p ∷ ps) zero n d h = refl
number-at (p ∷ ps) (suc k) n d h = number-at ps k n d (omega arith)

-- passes in the order of their numbers are all, where they are as many as the cell has
pub all_in_order : (count : ℕ) (passes : List CellPassModel) → length passes ≡ count → AreInOrder passes → AreAll count passes
all_in_order count [] long order k h = absurd (omega arith)
all_in_order count (p ∷ ps) long order k h =
    let here : k < length (p ∷ ps) = omega arith in
    (k, (let l = length-map (p ∷ ps) number in omega arith), number-at (p ∷ ps) k k p here ∙ order k p here)

-- what is true at each place is true of each element
pub all_from-places : {A : Type 0} (P : A → Type 0) (f : ℕ → A) (xs : List A) → ((k : ℕ) → k < length xs → slice_get xs k ≡ Some (f k)) → ((k : ℕ) → P (f k)) → All P xs
all_from-places P f xs at each k d h = subst P (sym (get_or_from_slice_get xs k (f k) d (at k h))) (each k)
