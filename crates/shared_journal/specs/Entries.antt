-- The entries of a journal, whose they are, and its beginnings.
use Rattle.std.specs.Prelude.{◌≡◌, ◌⊎◌, ℕ, ◌==◌, List, [], ◌∷◌, ◌++◌, filter}

abbrev pub IsAmong : {A : Type 0} → A → List A → Type 0
IsAmong x [] = ⊥
IsAmong x (y ∷ ys) = (x ≡ y) ⊎ IsAmong x ys

-- the list begins with these
abbrev pub StartsWith : {E : Type 0} → List E → List E → Type 0
StartsWith {E} all seen = (rest : List E) × (all ≡ seen ++ rest)

-- the entries of one pass
abbrev pub entries_by : {E : Type 0} → (E → ℕ) → ℕ → List E → List E
entries_by worker k = filter (λ e. worker e == k)
