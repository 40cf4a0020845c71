-- The numbers up to a bound, one more at the end.
use Rattle.std.proofs.Common.{arith, ◌≡◌, ℕ, zero, suc, ◌+◌, List, ◌++◌, refl, ap, ◌∙◌}
use Rattle.std.proofs.lemmas.Grind.{common_steps}
use Rattle.std.specs.List.{flat_map, range_with_len}

more : {A : Type 0} (f : ℕ → List A) (a n : ℕ)
    → flat_map f (range_with_len a (n + 1)) ≡ flat_map f (range_with_len a n) ++ f (a + n)
more f a zero = grind (arith, common_steps)
more f a (suc n) =
    let behind : flat_map f (range_with_len (a + 1) (n + 1)) ≡ flat_map f (range_with_len (a + 1) n) ++ f (a + 1 + n) = more f (a + 1) n in
    grind (arith, common_steps, behind)

pub flat_map-range_more : {A : Type 0} (f : ℕ → List A) (a n j : ℕ) → a + n ≡ j
    → flat_map f (range_with_len a (n + 1)) ≡ flat_map f (range_with_len a n) ++ f j
flat_map-range_more f a n j e = more f a n ∙ ap (λ m. flat_map f (range_with_len a n) ++ f m) e
