-- Lists that change at one place.
use Rattle.std.proofs.Common.{◌≡◌, ℕ, zero, suc, ◌<◌, ◌≤◌, ◌⊎◌, List, [], ◌∷◌, length, get_or, set, refl, sym, ap, inl, inr, ⊎_elim, arith}
use mathlib.Core.Option.{some, some-injective, some-ne-none}
use lib.ListN.{get_elem?}

-- what stands at a place
pub seen-at : {A : Type 0} (l : List A) (i : ℕ) (a d : A) → get_elem? l i ≡ some a → (get_or l i d ≡ a) × (i < length l)
seen-at [] i a d e = absurd (some-ne-none a (sym e))
seen-at (x ∷ xs) zero a d e = (some-injective x a e, omega arith)
seen-at (x ∷ xs) (suc i) a d e = let t = seen-at xs i a d e in (t.0, (let u = t.1 in omega arith))

pub at-read : {A : Type 0} (l : List A) (i : ℕ) (d : A) → i < length l → get_elem? l i ≡ some (get_or l i d)
at-read [] i d h = absurd (omega arith)
at-read (x ∷ xs) zero d h = refl
at-read (x ∷ xs) (suc i) d h = at-read xs i d (omega arith)

pub set-again : {A : Type 0} (l : List A) (i : ℕ) (a : A) → get_elem? l i ≡ some a → set l i a ≡ l
set-again [] i a e = refl
set-again (x ∷ xs) zero a e = ap (λ z. z ∷ xs) (sym (some-injective x a e))
set-again (x ∷ xs) (suc i) a e = ap (λ l. x ∷ l) (set-again xs i a e)

pub set-twice : {A : Type 0} (l : List A) (i : ℕ) (a b : A) → set (set l i a) i b ≡ set l i b
set-twice [] i a b = refl
set-twice (x ∷ xs) zero a b = refl
set-twice (x ∷ xs) (suc i) a b = ap (λ l. x ∷ l) (set-twice xs i a b)

pub set-read : (l : List ℕ) (i d : ℕ) → set l i (get_or l i d) ≡ l
set-read [] i d = refl
set-read (x ∷ xs) zero d = refl
set-read (x ∷ xs) (suc i) d = ap (λ l. x ∷ l) (set-read xs i d)

-- what stands at a place once one place was written
pub at-set : {A : Type 0} (l : List A) (i j : ℕ) (w u : A) → get_elem? (set l i w) j ≡ some u → ((j ≡ i) × (w ≡ u)) ⊎ (get_elem? l j ≡ some u)
at-set [] i j w u e = inr e
at-set (x ∷ xs) zero zero w u e = inl (refl, some-injective w u e)
at-set (x ∷ xs) zero (suc j) w u e = inr e
at-set (x ∷ xs) (suc i) zero w u e = inr e
at-set (x ∷ xs) (suc i) (suc j) w u e = ⊎_elim (λ p. inl (ap suc p.0, p.1)) (λ p. inr p) (at-set xs i j w u e)

pub past : {A : Type 0} (l : List A) (i : ℕ) (d : A) → length l ≤ i → get_or l i d ≡ d
past [] i d h = refl
past (x ∷ xs) zero d h = absurd (omega arith)
past (x ∷ xs) (suc i) d h = past xs i d (omega arith)

pub below-or : (q n : ℕ) → (q < n) ⊎ (n ≤ q)
below-or q n = grind arith
