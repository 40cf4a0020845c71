-- A count that goes on from a number.
use Rattle.std.proofs.Common.{◌≡◌, ℕ, ◌+◌, List, Bool, cond, refl}
use Rattle.std.specs.List.{fold, count_by}

abbrev pub count_on : {X : Type 0} → (X → Bool) → ℕ → List X → ℕ
count_on p n xs = fold (λ a x. a + cond (p x) 1 0) n xs

pub count_by-is : {X : Type 0} (p : X → Bool) (xs : List X) → count_by p xs ≡ count_on p 0 xs
count_by-is p xs = refl
