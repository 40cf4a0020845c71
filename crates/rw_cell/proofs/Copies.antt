-- Copies of which the first ones have the new write.
use Rattle.std.proofs.Common.{◌≡◌, ℕ, zero, suc, ◌+◌, ◌<◌, List, [], ◌∷◌, ◌++◌, map, set, length, slice_get, sym, refl, ap, ◌∙◌, subst, arith, Option, Some, None}
use Rattle.std.specs.List.{All}
use Rattle.std.proofs.lemmas.List.Elements.{All-nil, All-cons}
use Rattle.shfl_table.specs.declared.kept.Action.{Action}
use Rattle.shfl_table.specs.Histories.{common_history, initial_state_of, IsCurrent, AreUntouched}
use Rattle.shfl_table.specs.PassModel.{PassModel}
use Rattle.shfl_table.specs.Places.{Every, place_index}

-- P holds of the first k, and Q of the others
abbrev pub SplitAt : {X : Type 0} → ℕ → (X → Type 0) → (X → Type 0) → List X → Type 0
SplitAt zero P Q xs = Every Q xs
SplitAt (suc k) P Q [] = Unit {0}
SplitAt (suc k) P Q (x ∷ xs) = P x × SplitAt k P Q xs

set-set : {X : Type 0} (l : List X) (i : ℕ) (a b : X) → set (set l i a) i b ≡ set l i b
set-set [] i a b = refl
set-set (x ∷ xs) zero a b = refl
set-set {X} (x ∷ xs) (suc i) a b = ap (λ (l : List X). x ∷ l) (set-set xs i a b)

pub get-set : {X : Type 0} (l : List X) (i : ℕ) (x y : X) → slice_get l i ≡ Some x → slice_get (set l i y) i ≡ Some y
get-set [] i x y e = absurd (cc)
get-set (z ∷ zs) zero x y e = refl
get-set (z ∷ zs) (suc i) x y e = get-set zs i x y e

-- a value taken out and another put back
pub put_after : {X : Type 0} (old t n : PassModel X) (place : ℕ) (y : X)
    → t ≡ record old { values = set old.values (place_index old.own.reg.mode place) None }
    → n ≡ record t { values = set t.values (place_index t.own.reg.mode place) (Some y) }
    → n ≡ record old { values = set old.values (place_index old.own.reg.mode place) (Some y) }
put_after {X} old t n place y out back =
    back ∙ (ap (λ (z : PassModel X). record z { values = set z.values (place_index z.own.reg.mode place) (Some y) }) out
    ∙ (λ i. record old { values = set-set old.values (place_index old.own.reg.mode place) None (Some y) i }))

pub set-map : {X : Type 0} (xs : List X) (i : ℕ) (y : X) → set (map Some xs) i (Some y) ≡ map Some (set xs i y)
set-map [] i y = refl
set-map (x ∷ xs) zero y = refl
set-map {X} (x ∷ xs) (suc i) y = ap (λ (l : List (Option X)). Some x ∷ l) (set-map xs i y)

pub get-map : {X : Type 0} (xs : List X) (i : ℕ) (x : X) → slice_get xs i ≡ Some x → slice_get (map Some xs) i ≡ Some (Some x)
get-map [] i x e = absurd (cc)
get-map (y ∷ ys) zero x e = ap Some e
get-map (y ∷ ys) (suc i) x e = get-map ys i x e

one-more : (k : ℕ) → suc k ≡ k + 1
one-more k = omega arith

module _ {X : Type 0} (P Q : X → Type 0) where
  -- the one at the place, which has Q yet
  pub split-at : (k : ℕ) (xs : List X) → k < length xs → SplitAt k P Q xs → (x : X) × (slice_get xs k ≡ Some x) × Q x
  split-at k [] h m = absurd (omega arith)
  split-at zero (x ∷ xs) h m = (x, refl, m.0)
  split-at (suc k) (x ∷ xs) h m = split-at k xs (omega arith) m.1

  split-suc : (k : ℕ) (xs : List X) (y : X) → k < length xs → P y → SplitAt k P Q xs → SplitAt (suc k) P Q (set xs k y)
  split-suc k [] y h p m = absurd (omega arith)
  split-suc zero (x ∷ xs) y h p m = (p, m.1)
  split-suc (suc k) (x ∷ xs) y h p m = (m.0, split-suc k xs y (omega arith) p m.1)

  -- one more has P
  pub split-more : (k : ℕ) (xs : List X) (y : X) → k < length xs → P y → SplitAt k P Q xs → SplitAt (k + 1) P Q (set xs k y)
  split-more k xs y h p m = subst (λ (j : ℕ). SplitAt j P Q (set xs k y)) (one-more k) (split-suc k xs y h p m)

  split-whole : (xs : List X) → SplitAt (length xs) P Q xs → Every P xs
  split-whole [] m = tt
  split-whole (x ∷ xs) m = (m.0, split-whole xs m.1)

  -- all have P
  pub split-all : (k : ℕ) (xs : List X) → k ≡ length xs → SplitAt k P Q xs → Every P xs
  split-all k xs is m = split-whole xs (subst (λ (j : ℕ). SplitAt j P Q xs) is m)

pub same-value : {X : Type 0} (x y : X) → Some (Some x) ≡ Some (Some y) → x ≡ y
same-value x y e = cc

module _ {X : Type 0} (R : X → Type 0) (history : X → List Action) where
  same-history : (t u : List Action) (xs : List X) → u ≡ t → Every (λ x. R x × (history x ≡ t)) xs → Every (λ x. history x ≡ u) xs
  same-history t u [] is e = tt
  same-history t u (x ∷ xs) is e = (e.0.1 ∙ sym is, same-history t u xs is e.1)

  -- where all have one history, it is the common one
  pub all-common : (t seen : List Action) (xs : List X) → Every (λ x. R x × (history x ≡ t)) xs → Every (λ x. history x ≡ common_history history seen xs) xs
  all-common t seen [] e = tt
  all-common t seen (x ∷ xs) e = same-history t (history x) (x ∷ xs) e.0.1 e

  pub common-is : (t seen : List Action) (xs : List X) → 0 < length xs → Every (λ x. R x × (history x ≡ t)) xs → common_history history seen xs ≡ t
  common-is t seen [] h e = absurd (omega arith)
  common-is t seen (x ∷ xs) h e = e.0.1

pub every-snoc : {A : Type 0} (P : A → Type 0) (xs : List A) (x : A) → Every P xs → P x → Every P (xs ++ x ∷ [])
every-snoc P [] x e p = (p, tt)
every-snoc P (y ∷ ys) x e p = (e.0, every-snoc P ys x e.1 p)

-- where all have one initial state and no history, they are untouched
pub untouched : {X : Type 0} (initial : X → List ℕ) (history : X → List Action) (r : List ℕ) (xs : List X) → Every (λ x. (initial x ≡ r) × (history x ≡ [])) xs → AreUntouched initial history xs
untouched initial history r [] e = tt
untouched {X} initial history r (x ∷ xs) e = subst (λ (s : List ℕ). Every (IsCurrent initial history s []) (x ∷ xs)) (sym e.0.0) e

pub first-initial : {X : Type 0} (initial : X → List ℕ) (history : X → List Action) (r : List ℕ) (xs : List X) → 0 < length xs → Every (λ x. (initial x ≡ r) × (history x ≡ [])) xs → initial_state_of initial xs ≡ r
first-initial initial history r [] some e = absurd (omega arith)
first-initial initial history r (x ∷ xs) some e = e.0.0

pub every-last : {A : Type 0} (P : A → Type 0) (xs : List A) (x : A) → Every P (xs ++ x ∷ []) → P x
every-last P [] x e = e.0
every-last P (y ∷ ys) x e = every-last P ys x e.1

pub every-front : {A : Type 0} (P : A → Type 0) (xs : List A) (x : A) → Every P (xs ++ x ∷ []) → Every P xs
every-front P [] x e = tt
every-front P (y ∷ ys) x e = (e.0, every-front P ys x e.1)

pub one-element : {A : Type 0} (P : A → Type 0) (x : A) → P x → All P (x ∷ [])
one-element P x p = All-cons P x [] p (All-nil P)
