-- The values that passes have, one after the other.
use Rattle.std.proofs.Common.{◌≡◌, ℕ, zero, suc, ◌+◌, List, [], ◌∷◌, length, refl, ap, ◌∙◌, Some, None}
use Rattle.shfl_line.specs.declared.words.Attr.{Attr}
use Rattle.sim_report.specs.declared.tallies.Key.{Key}
use Rattle.sim_report.specs.Tallies.{least_from, of_value, values_from}

module _ (key : Key) (attrs : List Attr) where
  -- no value is left
  pub values-none : (n first : ℕ) → least_from key first attrs (length attrs) ≡ None → values_from key attrs n first ≡ []
  values-none zero first e = refl
  values-none (suc n) first e = ap (λ o. of_value o (λ value. values_from key attrs n (value + 1))) e

  -- one value, and those behind it
  pub values-some : (n m first value : ℕ) → m ≡ suc n → least_from key first attrs (length attrs) ≡ Some value
      → values_from key attrs m first ≡ value ∷ values_from key attrs n (value + 1)
  values-some n m first value left e = ap (λ k. values_from key attrs k first) left ∙ ap (λ o. of_value o (λ v. values_from key attrs n (v + 1))) e
