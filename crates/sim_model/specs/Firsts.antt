-- A list whose first elements are changed, one by one.
use Rattle.std.specs.Prelude.{ℕ, List, map, take, drop, ◌++◌}

-- the first n elements are changed so, and the others stay
abbrev pub mapped : {A : Type 0} → (A → A) → ℕ → List A → List A
mapped f n xs = map f (take n xs) ++ drop n xs
