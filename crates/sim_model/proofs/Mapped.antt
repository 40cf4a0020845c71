-- A list whose first elements are changed, one by one.
use Rattle.std.proofs.Common.{◌≡◌, ℕ, zero, suc, ◌+◌, ◌<◌, List, [], ◌∷◌, length, get_or, set, refl, ap, arith, add-one, ◌∙◌}
use Rattle.sim_model.specs.Firsts.{mapped}

one-more : {A : Type 0} → (f : A → A) (xs : List A) (i : ℕ) (d : A) → set (mapped f i xs) i (f (get_or (mapped f i xs) i d)) ≡ mapped f (suc i) xs
one-more f [] zero d = refl
one-more f [] (suc i) d = refl
one-more f (x ∷ xs) zero d = refl
one-more f (x ∷ xs) (suc i) d = ap (λ ys. f x ∷ ys) (one-more f xs i d)

pub mapped-more : {A : Type 0} → (f : A → A) (xs : List A) (i : ℕ) (d : A) → set (mapped f i xs) i (f (get_or (mapped f i xs) i d)) ≡ mapped f (i + 1) xs
mapped-more f xs i d = rw add-one (one-more f xs i d)

pub mapped-next : {A : Type 0} → (f : A → A) (xs ys : List A) (i : ℕ) (d v : A) → ys ≡ mapped f i xs → v ≡ f (get_or ys i d) → set ys i v ≡ mapped f (i + 1) xs
mapped-next f xs ys i d v e is = ap (λ x. set ys i x) is ∙ ap (λ zs. set zs i (f (get_or zs i d))) e ∙ mapped-more f xs i d

-- one of the first is changed
pub mapped-below : {A : Type 0} → (f : A → A) (xs : List A) (n k : ℕ) (d : A) → k < n → k < length xs → get_or (mapped f n xs) k d ≡ f (get_or xs k d)
mapped-below f [] n k d lt inside = absurd (omega arith)
mapped-below f (x ∷ xs) zero k d lt inside = absurd (omega arith)
mapped-below f (x ∷ xs) (suc n) zero d lt inside = refl
mapped-below f (x ∷ xs) (suc n) (suc k) d lt inside = mapped-below f xs n k d (omega arith) (omega arith)

-- what holds of one, changed or not, holds of it among them
pub mapped-either : {A : Type 0} → (P : A → Type 0) (f : A → A) (xs : List A) (n k : ℕ) (d : A) → P (get_or xs k d) → P (f (get_or xs k d)) → P (get_or (mapped f n xs) k d)
mapped-either P f [] zero k d stays changed = stays
mapped-either P f [] (suc n) k d stays changed = stays
mapped-either P f (x ∷ xs) zero k d stays changed = stays
mapped-either P f (x ∷ xs) (suc n) zero d stays changed = changed
mapped-either P f (x ∷ xs) (suc n) (suc k) d stays changed = mapped-either P f xs n k d stays changed

pub mapped-long : {A : Type 0} → (f : A → A) (xs : List A) (n : ℕ) → length (mapped f n xs) ≡ length xs
mapped-long f [] zero = refl
mapped-long f [] (suc n) = refl
mapped-long f (x ∷ xs) zero = refl
mapped-long f (x ∷ xs) (suc n) = let ih = mapped-long f xs n in omega arith
