-- What stands at the places of a list.
use Rattle.std.proofs.Common.{◌≡◌, ◌≢◌, ◌⊎◌, inl, inr, ℕ, zero, suc, ◌+◌, ◌<◌, ◌≤◌, List, [], ◌∷◌, ◌++◌, map, set, take, length, Some, slice_get, refl, sym, ap, ◌∙◌, subst, arith, length-append}
use Rattle.std.specs.List.{All}
use Rattle.std.proofs.lemmas.Option.{same_Some, slice_get_within, get_or_from_slice_get, slice_get-get_or}
use Rattle.std.proofs.lemmas.List.{take-append-le, length-map}
use Rattle.std.proofs.Math.Seq.{take-length}

-- an element after a write at some place
pub got_set : {A : Type 0} (xs : List A) (k j : ℕ) (y x : A) → slice_get (set xs k y) j ≡ Some x → ((j ≡ k) × (x ≡ y)) ⊎ ((j ≢ k) × (slice_get xs j ≡ Some x))
got_set [] k j y x is = absurd (let within = slice_get_within [] j x is in omega arith)
got_set (a ∷ as') zero zero y x is = inl (refl, cc)
got_set (a ∷ as') zero (suc j) y x is = inr ((λ e. absurd (omega arith)), is)
got_set (a ∷ as') (suc k) zero y x is = inr ((λ e. absurd (omega arith)), is)
got_set (a ∷ as') (suc k) (suc j) y x is = elim (got_set as' k j y x is) [
  | inl here ↦ inl (ap suc here.0, here.1)
  | inr there ↦ inr ((λ e. there.0 (omega arith)), there.1)
]

pub got_here : {A : Type 0} (xs : List A) (k : ℕ) (y : A) → k < length xs → slice_get (set xs k y) k ≡ Some y
got_here [] k y within = absurd (omega arith)
got_here (x ∷ xs) zero y within = refl
got_here (x ∷ xs) (suc k) y within = got_here xs k y (omega arith)

pub got_other : {A : Type 0} (xs : List A) (k j : ℕ) (y : A) → j ≢ k → slice_get (set xs k y) j ≡ slice_get xs j
got_other [] k j y other = refl
got_other (x ∷ xs) zero zero y other = absurd (other refl)
got_other (x ∷ xs) zero (suc j) y other = refl
got_other (x ∷ xs) (suc k) zero y other = refl
got_other (x ∷ xs) (suc k) (suc j) y other = got_other xs k j y (λ e. other (ap suc e))

pub got_snoc : {A : Type 0} (xs : List A) (x : A) (k : ℕ) (y : A) → slice_get (xs ++ x ∷ []) k ≡ Some y → ((k < length xs) × (slice_get xs k ≡ Some y)) ⊎ ((k ≡ length xs) × (x ≡ y))
got_snoc [] x zero y is = inr (refl, cc)
got_snoc [] x (suc k) y is = absurd (let within = slice_get_within [] k y is in omega arith)
got_snoc (a ∷ as') x zero y is = inl (omega arith, is)
got_snoc (a ∷ as') x (suc k) y is = elim (got_snoc as' x k y is) [
  | inl inside ↦ inl (omega arith, inside.1)
  | inr behind ↦ inr (ap suc behind.0, behind.1)
]

pub got_last : {A : Type 0} (xs : List A) (x : A) → slice_get (xs ++ x ∷ []) (length xs) ≡ Some x
got_last [] x = refl
got_last (a ∷ as') x = got_last as' x

pub got_take : {A : Type 0} (n : ℕ) (xs : List A) (k : ℕ) (y : A) → slice_get (take n xs) k ≡ Some y → slice_get xs k ≡ Some y
got_take zero xs k y is = absurd (let within = slice_get_within (take zero xs) k y is in omega arith)
got_take (suc n) [] k y is = is
got_take (suc n) (x ∷ xs) zero y is = is
got_take (suc n) (x ∷ xs) (suc k) y is = got_take n xs k y is

pub got_map : {A B : Type 0} (f : A → B) (xs : List A) (k : ℕ) (y : B) → slice_get (map f xs) k ≡ Some y → (x : A) × (slice_get xs k ≡ Some x) × (y ≡ f x)
got_map f [] k y is = absurd (let within = slice_get_within [] k y is in omega arith)
got_map f (x ∷ xs) zero y is = (x, refl, same_Some y (f x) (sym is))
got_map f (x ∷ xs) (suc k) y is = got_map f xs k y is

-- what stands at a place of the second list, so changed, is all that the first one has
pub mapped : {A B : Type 0} (f : A → B) (ys : List B) (xs : List A) → length ys ≡ length xs → ((k : ℕ) (x : A) → slice_get xs k ≡ Some x → slice_get ys k ≡ Some (f x)) → ys ≡ map f xs
mapped f [] [] long each = refl
mapped f [] (x ∷ xs) long each = absurd (omega arith)
mapped f (y ∷ ys) [] long each = absurd (omega arith)
mapped f (y ∷ ys) (x ∷ xs) long each =
    let here : y ≡ f x = same_Some y (f x) (each zero x refl) in let rest = mapped f ys xs (omega arith) (λ k z is. each (suc k) z is) in λ i. here i ∷ rest i

-- what is true at each place is true of each element
pub all_got : {A : Type 0} (P : A → Type 0) (xs : List A) → ((k : ℕ) (x : A) → slice_get xs k ≡ Some x → P x) → All P xs
all_got P xs each k d within = each k _ (slice_get-get_or xs k d within)

-- elements that were written back are all
pub written_back : {A : Type 0} (long : ℕ) (xs rest : List A) → length xs ≡ long → take long (xs ++ rest) ≡ xs
written_back long xs rest is = take-append-le long xs rest (omega arith) ∙ (ap (λ n. take n xs) (sym is) ∙ take-length xs)

pub got_front : {A : Type 0} (xs ys : List A) (k : ℕ) (y : A) → slice_get xs k ≡ Some y → slice_get (xs ++ ys) k ≡ Some y
got_front [] ys k y is = absurd (let within = slice_get_within [] k y is in omega arith)
got_front (x ∷ xs) ys zero y is = is
got_front (x ∷ xs) ys (suc k) y is = got_front xs ys k y is

-- each element is that of its place, with one more
pub each_is-more : {A : Type 0} (f : ℕ → A) (xs ys : List A) (x : A) → ys ≡ xs ++ x ∷ [] → x ≡ f (length xs) → ((i : ℕ) → i < length xs → slice_get xs i ≡ Some (f i))
    → (i : ℕ) → i < length ys → slice_get ys i ≡ Some (f i)
each_is-more f xs ys x is here below i within =
    let got = slice_get-get_or ys i x within in
    elim (got_snoc xs x i _ (ap (λ l. slice_get l i) (sym is) ∙ got)) [
      | inl inside ↦ ap (λ l. slice_get l i) is ∙ got_front xs (x ∷ []) i (f i) (below i inside.0)
      | inr last ↦ got ∙ ap Some (sym last.1 ∙ (here ∙ ap f (sym last.0)))
    ]

-- lists with one element more are the same only if their parts are
pub snoc_same : {A : Type 0} (xs ys : List A) (x y : A) → xs ++ x ∷ [] ≡ ys ++ y ∷ [] → (xs ≡ ys) × (x ≡ y)
snoc_same [] [] x y same = (refl, cc)
snoc_same [] (b ∷ bs) x y same = absurd (let l = ap length same in let k = length-append bs (y ∷ []) in omega arith)
snoc_same (a ∷ as') [] x y same = absurd (let l = ap length same in let k = length-append as' (x ∷ []) in omega arith)
snoc_same (a ∷ as') (b ∷ bs) x y same =
    let head : a ≡ b = cc in let tail : as' ++ x ∷ [] ≡ bs ++ y ∷ [] = cc in
    let rest = snoc_same as' bs x y tail in ((λ i. head i ∷ rest.0 i), rest.1)

-- an element between others
pub got_middle : {A : Type 0} (xs : List A) (y : A) (ys : List A) → slice_get (xs ++ y ∷ ys) (length xs) ≡ Some y
got_middle [] y ys = refl
got_middle (x ∷ xs) y ys = got_middle xs y ys

-- what all are such as, the one at a place is too
pub all_at : {A : Type 0} (P : A → Type 0) (xs : List A) (k : ℕ) (x : A) → All P xs → slice_get xs k ≡ Some x → P x
all_at P xs k x all at = subst P (get_or_from_slice_get xs k x x at) (all k x (slice_get_within xs k x at))
