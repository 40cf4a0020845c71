-- The places of the values, and which of them a hold gives.
use Rattle.std.specs.Prelude.{ℕ, zero, suc, ◌+◌, ◌-◌, min, List, [], ◌∷◌, Option, Some, None}
use Rattle.shfl_line.specs.declared.events.Mode.{Mode}
use Rattle.shfl_line.specs.declared.events.Mode.TheVariants.{Write, Read}
use Rattle.atomic_table.specs.Table.{turned}

-- the places i, i + 1 and so on
abbrev pub numbered : {A : Type 0} → ℕ → List A → List (ℕ × A)
numbered i [] = []
numbered i (x ∷ xs) = (i, x) ∷ numbered (i + 1) xs

abbrev pub Every : {A : Type 0} → (A → Type 0) → List A → Type 0
Every P [] = Unit {0}
Every P (x ∷ xs) = P x × Every P xs

-- turned so often
abbrev pub turns : {A : Type 0} → ℕ → List (ℕ × A) → List (ℕ × A)
turns zero c = c
turns (suc n) c = turned (turns n c)

abbrev pub values_of : {X : Type 0} → List (ℕ × X) → List X
values_of [] = []
values_of (x ∷ xs) = x.1 ∷ values_of xs

-- the places that a pass of number k has by its hold, of so many: the first, and how many
abbrev pub first_place : Option Mode → ℕ → ℕ
first_place None k = 0
first_place (Some Write) k = 0
first_place (Some Read) k = k

abbrev pub place_count : Option Mode → ℕ → ℕ → ℕ
place_count None k places = 0
place_count (Some Write) k places = places
place_count (Some Read) k places = min 1 (places - k)

-- where among its places a place is
abbrev pub place_index : Mode → ℕ → ℕ
place_index Write place = place
place_index Read place = 0
