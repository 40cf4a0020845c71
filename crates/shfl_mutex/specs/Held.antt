-- The locks that a seat has, the one taken last in front.
use Rattle.std.specs.Prelude.{◌≡◌, ℕ, ◌<◌, ◌==◌, Bool, false, cond, List, [], ◌∷◌, Option, Some, None}
use Rattle.std.specs.List.{list_any}
use Rattle.shfl_line.specs.declared.events.Mode.{Mode}
use Rattle.shfl_line.specs.declared.events.Mode.TheVariants.{Write}

abbrev pub is_among : ℕ → List ℕ → Bool
is_among l = list_any (λ k. k == l)

-- each of them is held as a writer
abbrev pub hold_in : ℕ → List ℕ → Option Mode
hold_in l ks = cond (is_among l ks) (Some Write) None

-- and its value is out
abbrev pub values_out : {X : Type 0} → List ℕ → List (ℕ × Option X)
values_out [] = []
values_out (k ∷ ks) = (k, None) ∷ values_out ks

-- no lock stands twice
abbrev pub AreApart : List ℕ → Type 0
AreApart [] = Unit {0}
AreApart (k ∷ ks) = (is_among k ks ≡ false) × AreApart ks

-- and there are more than its number
abbrev pub AreBelow : ℕ → List ℕ → Type 0
AreBelow n [] = Unit {0}
AreBelow n (k ∷ ks) = (k < n) × AreBelow n ks
