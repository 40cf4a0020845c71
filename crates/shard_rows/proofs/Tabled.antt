-- Numbers by name under an edit.
use Rattle.std.proofs.Common.{◌≡◌, ℕ, zero, suc, ◌+◌, ◌-◌, ◌<◌, ◌≤◌, Bool, true, false, cond, eqb, List, [], ◌∷◌, ◌++◌, length, get_or, set, slice_index, slice_set, sym, refl, ap, ◌∙◌, subst, inl, inr, arith}
use Rattle.std.proofs.lemmas.Bool.{cases_lt, cases_eq}
use Rattle.std.proofs.lemmas.Bool.Decides.{nat_tests}
use Rattle.std.proofs.lemmas.List.{get_or-set_same, get_or-set_other, get_or_default, length-set}
use Rattle.std.proofs.lemmas.List.Sums.{sum_by-set, sum_by-append, sum_by-cons}
use Rattle.shard_rows.specs.Tables.{held, count_of, IsSet}

-- a zero more changes nothing
pub zero_more : (numbers : List ℕ) (other : ℕ) → slice_index (numbers ++ 0 ∷ []) other ≡ slice_index numbers other
zero_more [] zero = refl
zero_more [] (suc other) = refl
zero_more (n ∷ numbers) zero = refl
zero_more (n ∷ numbers) (suc other) = zero_more numbers other

pub count_zero_more : (numbers : List ℕ) → count_of (numbers ++ 0 ∷ []) ≡ count_of numbers
count_zero_more numbers = sum_by-append held numbers (0 ∷ []) ∙ omega arith

pub held_most : (n : ℕ) → held n ≤ 1
held_most zero = omega arith
held_most (suc n) = omega arith

pub count_within : (numbers : List ℕ) → count_of numbers ≤ length numbers
count_within [] = omega arith
count_within (n ∷ numbers) =
    let rest = count_within numbers in
    let one = held_most n in
    let sum : count_of (n ∷ numbers) ≡ held n + count_of numbers = sum_by-cons held n numbers in
    omega arith

pub is_set : (numbers : List ℕ) (name number : ℕ) → name < length numbers → IsSet numbers (slice_set numbers name number) name number
is_set numbers name number known other = elim (cases_eq other name) [
  | inl same ↦
      let yes : eqb other name ≡ true = grind (arith, nat_tests) in
      ap (slice_index (slice_set numbers name number)) same ∙ get_or-set_same numbers name number 0 known ∙ ap (λ b. cond b number (slice_index numbers other)) (sym yes)
  | inr apart ↦
      let no : eqb other name ≡ false = grind (arith, nat_tests) in
      get_or-set_other numbers name other number 0 apart ∙ ap (λ b. cond b number (slice_index numbers other)) (sym no)
]

-- the count after an edit
pub count_set : (numbers : List ℕ) (name number : ℕ) → name < length numbers
    → count_of (slice_set numbers name number) + held (slice_index numbers name) ≡ count_of numbers + held number
count_set numbers name number known = sum_by-set held numbers name number 0 known

pub held_in : (numbers : List ℕ) (name : ℕ) → held (slice_index numbers name) ≤ count_of numbers
held_in [] name = omega arith
held_in (n ∷ numbers) zero = let sum : count_of (n ∷ numbers) ≡ held n + count_of numbers = sum_by-cons held n numbers in omega arith
held_in (n ∷ numbers) (suc name) =
    let rest = held_in numbers name in
    let sum : count_of (n ∷ numbers) ≡ held n + count_of numbers = sum_by-cons held n numbers in
    omega arith

module _ (numbers : List ℕ) (name number count old : ℕ) (known : name < length numbers) (counted : count ≡ count_of numbers) (here : old ≡ get_or numbers name old) where
  old_there : held old ≡ held (slice_index numbers name)
  old_there = ap held (here ∙ get_or_default numbers name old 0 known)

  -- the count may fall by the old number and rise by the new one
  pub count_changed : (count - held old) + held number ≡ count_of (slice_set numbers name number)
  count_changed =
      let sum = count_set numbers name number known in
      let within = held_in numbers name in
      let same = old_there in
      omega arith

  pub count_below : (count - held old) + held number ≤ length numbers
  count_below =
      let within = count_within (slice_set numbers name number) in
      let len = length-set numbers name number in
      let sum = count_changed in
      omega arith
