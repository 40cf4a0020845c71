-- What a filter keeps of the front of a list.
use Rattle.std.proofs.Common.{◌≡◌, ℕ, zero, suc, Bool, false, cond, List, [], ◌∷◌, take, length, sym, refl, ap, ◌∙◌, arith}
use Rattle.std.specs.List.{filter, AllWithin}

module _ {E : Type 0} (test : E → Bool) where
  -- nothing is kept of a front where nothing passes
  pub filter-take_none : (xs : List E) (i : ℕ) → AllWithin (λ e. test e ≡ false) xs 0 i → filter test (take i xs) ≡ []
  filter-take_none xs zero fails = refl
  filter-take_none [] (suc i) fails = refl
  filter-take_none (x ∷ xs) (suc i) fails =
      ap (λ b. cond b (x ∷ filter test (take i xs)) (filter test (take i xs))) (fails 0 x (omega arith) (omega arith))
      ∙ filter-take_none xs i (λ k d from below. fails (suc k) d (omega arith) (omega arith))

  -- the front gives all that is kept, where nothing passes behind it
  pub filter-take_all : (xs : List E) (i : ℕ) → AllWithin (λ e. test e ≡ false) xs i (length xs) → filter test (take i xs) ≡ filter test xs
  filter-take_all [] zero fails = refl
  filter-take_all [] (suc i) fails = refl
  filter-take_all (x ∷ xs) zero fails =
      filter-take_all xs zero (λ k d from below. fails (suc k) d (omega arith) (omega arith))
      ∙ sym (ap (λ b. cond b (x ∷ filter test xs) (filter test xs)) (fails 0 x (omega arith) (omega arith)))
  filter-take_all (x ∷ xs) (suc i) fails =
      ap (λ rest. cond (test x) (x ∷ rest) rest) (filter-take_all xs i (λ k d from below. fails (suc k) d (omega arith) (omega arith)))
