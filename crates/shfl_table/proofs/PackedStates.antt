-- What was packed into one list is in it.
use Rattle.std.proofs.Common.{◌≡◌, ℕ, List, [], ◌∷◌, refl, ap}
use Rattle.shfl_table.specs.Books.{pack, opening_of, allowed_of}

pub opening_of-pack : (opening allowed : List ℕ) → opening_of (pack opening allowed) ≡ opening
opening_of-pack [] allowed = refl
opening_of-pack (x ∷ xs) allowed = ap (λ (l : List ℕ). x ∷ l) (opening_of-pack xs allowed)

pub allowed_of-pack : (opening allowed : List ℕ) → allowed_of (pack opening allowed) ≡ allowed
allowed_of-pack [] allowed = refl
allowed_of-pack (x ∷ xs) allowed = allowed_of-pack xs allowed
