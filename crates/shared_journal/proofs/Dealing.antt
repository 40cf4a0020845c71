-- The numbers that are dealt out, one after another.
use Rattle.std.proofs.Common.{◌≡◌, ℕ, zero, suc, ◌+◌, ◌<◌, ◌==◌, not, cond, Bool, List, [], ◌∷◌, ◌++◌, filter, length, drop, slice_index, slice_get, Some, sym, refl, ap, ◌∙◌, subst, arith, ne_eqb}
use Rattle.std.proofs.lemmas.List.{drop_all}
use Rattle.shared_journal.specs.declared.view.Own.{Own}
use Rattle.shared_journal.specs.Rule.{fresh_numbers, first_of, rest_of}

next-drop : (l : List ℕ) (i : ℕ) → i < length l → drop i l ≡ slice_index l i ∷ drop (suc i) l
next-drop [] i h = absurd (omega arith)
next-drop (x ∷ xs) zero h = refl
next-drop (x ∷ xs) (suc i) h = next-drop xs i (omega arith)

one_more : (k : ℕ) → suc k ≡ k + 1
one_more k = omega arith

-- one more, where each place below has its fact
each-more : {A : Type 0} (P : ℕ → A → Type 0) (xs : List A) (x : A) → P (length xs) x → ((i : ℕ) → i < length xs → (y : A) × (slice_get xs i ≡ Some y) × P i y) → (i : ℕ) → i < suc (length xs) → (y : A) × (slice_get (xs ++ x ∷ []) i ≡ Some y) × P i y
each-more P [] x p each zero h = (x, refl, p)
each-more P [] x p each (suc i) h = absurd (omega arith)
each-more P (y ∷ ys) x p each zero h = each zero (omega arith)
each-more P (y ∷ ys) x p each (suc i) h = each-more (λ j. P (suc j)) ys x p (λ j k. each (suc j) (omega arith)) i (omega arith)

-- as many passes, each at its place
pub dealt-more : {A : Type 0} (f : ℕ → A) (xs ys : List A) (x : A) (k : ℕ) → ys ≡ xs ++ x ∷ [] → length xs ≡ k → x ≡ f k → ((i : ℕ) → i < k → slice_get xs i ≡ Some (f i)) → (i : ℕ) → i < k + 1 → slice_get ys i ≡ Some (f i)
dealt-more f xs ys x k is long here each i h =
    let e = each-more (λ j y. y ≡ f j) xs x (here ∙ ap f (sym long)) (λ j l. (f j, each j (omega arith), refl)) i (omega arith) in
    ap (λ l. slice_get l i) is ∙ (e.1 ∙ ap Some e.2)

module _ {E : Type 0} (opening : List ℕ) (limit : ℕ) where
  others-stay : (k j : ℕ) (allowed : List ℕ) → k < j → filter (λ (p : Own E). not (p.number == k)) (fresh_numbers opening limit j allowed) ≡ fresh_numbers opening limit j allowed
  others-stay k j [] h = refl
  others-stay k j (a ∷ more) h = ap (λ (b : Bool). cond (not b) (record { number = j; allowed = a; opening = opening; limit = limit; entries = [] } ∷ filter (λ (p : Own E). not (p.number == k)) (fresh_numbers opening limit (suc j) more)) (filter (λ (p : Own E). not (p.number == k)) (fresh_numbers opening limit (suc j) more))) (ne_eqb j k (λ is. omega arith))
      ∙ ap (λ (l : List (Own E)). record { number = j; allowed = a; opening = opening; limit = limit; entries = [] } ∷ l) (others-stay k (suc j) more (omega arith))

  module _ (allowed : List ℕ) (k : ℕ) (h : k < length allowed) where
    pub dealt-is : fresh_numbers {E = E} opening limit k (drop k allowed) ≡ record { number = k; allowed = slice_index allowed k; opening = opening; limit = limit; entries = [] } ∷ fresh_numbers opening limit (k + 1) (drop (k + 1) allowed)
    dealt-is = ap (fresh_numbers opening limit k) (next-drop allowed k h) ∙ ap (λ (i : ℕ). record { number = k; allowed = slice_index allowed k; opening = opening; limit = limit; entries = [] } ∷ fresh_numbers opening limit i (drop i allowed)) (one_more k)

    pub first-dealt : first_of (fresh_numbers {E = E} opening limit k (drop k allowed)) ≡ record { number = k; allowed = slice_index allowed k; opening = opening; limit = limit; entries = [] } ∷ []
    first-dealt = ap first_of dealt-is

    pub rest-dealt : rest_of (fresh_numbers {E = E} opening limit k (drop k allowed)) ≡ fresh_numbers opening limit (k + 1) (drop (k + 1) allowed)
    rest-dealt = ap rest_of dealt-is ∙ others-stay k (k + 1) (drop (k + 1) allowed) (omega arith)

  pub none-left : (allowed : List ℕ) (k : ℕ) → k ≡ length allowed → fresh_numbers {E = E} opening limit k (drop k allowed) ≡ []
  none-left allowed k is = subst (λ (i : ℕ). fresh_numbers {E = E} opening limit i (drop i allowed) ≡ []) (sym is) (ap (fresh_numbers opening limit (length allowed)) (drop_all (length allowed) allowed (omega arith)))
