-- What is true at each place, with one more at the end.
use Rattle.std.proofs.Common.{◌≡◌, ℕ, zero, suc, ◌+◌, ◌<◌, List, [], ◌∷◌, ◌++◌, length, slice_get, Some, sym, refl, ap, ◌∙◌, arith, length-append}
use native.Mathlib.Decide.{dec_lt}

module _ {A : Type 0} where
  at-more : (xs : List A) (x : A) (i : ℕ) → (i < length xs → slice_get (xs ++ x ∷ []) i ≡ slice_get xs i) × (i ≡ length xs → slice_get (xs ++ x ∷ []) i ≡ Some x)
  at-more [] x zero = ((λ h. absurd (omega arith)), λ _. refl)
  at-more [] x (suc i) = ((λ h. absurd (omega arith)), λ h. absurd (omega arith))
  at-more (y ∷ ys) x zero = ((λ _. refl), λ h. absurd (omega arith))
  at-more (y ∷ ys) x (suc i) = let r = at-more ys x i in ((λ h. r.0 (omega arith)), λ h. r.1 (omega arith))

  pub each-more : (f : ℕ → A) (xs ys : List A) (x : A) → ys ≡ xs ++ x ∷ [] → x ≡ f (length xs) → ((i : ℕ) → i < length xs → slice_get xs i ≡ Some (f i)) → (i : ℕ) → i < length ys → slice_get ys i ≡ Some (f i)
  each-more f xs ys x is here below i h = let g = at-more xs x i in let long : length ys ≡ length xs + 1 = ap length is ∙ length-append xs (x ∷ []) in
      ap (λ l. slice_get l i) is ∙ elim (dec_lt i (length xs)) as (λ _. slice_get (xs ++ x ∷ []) i ≡ Some (f i)) [
        | yes lt ↦ g.0 lt ∙ below i lt
        | no ge ↦ let e : i ≡ length xs = omega arith in g.1 e ∙ ap Some (here ∙ sym (ap f e))
      ]
