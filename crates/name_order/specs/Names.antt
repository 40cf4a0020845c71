-- Names in order of their bytes.
use Rattle.std.specs.Prelude.{◌≡◌, ◌<◌, ◌-◌, ◌↔◌, ◌⊎◌, ◌++◌, ◌∷◌, ℕ, List, length, slice_index_or, [], Contains}
use Rattle.std.specs.Ordering.{nat_cmp}
use Rattle.std.specs.Cmp.Lexicographic.{slice_cmp}
use Rattle.std.specs.declared.cmp.Ordering.TheVariants.{Less}

-- each name is less than those behind it: the first byte that differs decides, and else the lengths
abbrev pub AreRisingBy : {X : Type 0} → (X → List ℕ) → List X → Type 0
AreRisingBy {X} bytes names = (i j : ℕ) (d : X) → i < j → j < length names → slice_cmp nat_cmp (bytes (slice_index_or names i d)) (bytes (slice_index_or names j d)) ≡ Less

-- there is a last name, and it is this one
abbrev pub EndsWith : {X : Type 0} → (X → List ℕ) → List X → List ℕ → Type 0
EndsWith {X} bytes names name = (0 < length names) × ((d : X) → bytes (slice_index_or names (length names - 1) d) ≡ name)

-- the name stands behind the others now, unless it was the last of them
abbrev pub IsPutLast : {X : Type 0} → (X → List ℕ) → List X → X → List X → Type 0
IsPutLast {X} bytes old name new =
    (EndsWith bytes old (bytes name) × (new ≡ old)) ⊎ ((¬ (EndsWith bytes old (bytes name))) × (new ≡ old ++ name ∷ []))

-- the same names, however often and in whatever order
abbrev pub SameMembers : List (List ℕ) → List (List ℕ) → Type 0
SameMembers some others = (name : List ℕ) → Contains some name ↔ Contains others name

-- the bytes of a name
abbrev pub name_at : List (List ℕ) → ℕ → List ℕ
name_at names k = slice_index_or names k []
