-- When places tie, as numbers.
use Rattle.std.proofs.Common.{◌≡◌, ◌≢◌, ℕ, ◌<◌, Bool, true, false, cond, eqb, sym, refl, ap, ◌∙◌, inl, inr, arith}
use Rattle.std.specs.Prelude.{◌&&◌}
use Rattle.std.specs.Ordering.{nat_cmp, is_eq, eq_by_cmp, ordering_then}
use Rattle.std.specs.declared.cmp.Ordering.{Ordering}
use Rattle.std.specs.declared.cmp.Ordering.TheVariants.{Less, Equal, Greater}
use Rattle.std.proofs.lemmas.Bool.{cases_lt, cases_eq}
use Rattle.std.proofs.lemmas.Bool.Decides.{nat_tests}
use Rattle.dir_table.specs.Names.{Place, place_cmp}

-- numbers that differ don't tie
cmp_apart : (m n : ℕ) → m ≢ n → is_eq (nat_cmp m n) ≡ false
cmp_apart m n differ = elim (cases_lt m n) [
  | inl below ↦ let less : nat_cmp m n ≡ Less = grind (arith, nat_tests) in ap is_eq less
  | inr above ↦ let greater : nat_cmp m n ≡ Greater = grind (arith, nat_tests) in ap is_eq greater
]

then_apart : (r s : Ordering) → is_eq r ≡ false → is_eq (ordering_then r s) ≡ false
then_apart Less s h = refl
then_apart Equal s h = cc
then_apart Greater s h = refl

pub same_place : (p q : Place) → eq_by_cmp place_cmp p q ≡ ((eqb p.0 q.0) && (eqb p.1 q.1))
same_place p q = elim (cases_eq p.0 q.0) [
  | inl first ↦
      let tie : nat_cmp p.0 q.0 ≡ Equal = grind (arith, nat_tests) in
      let yes : eqb p.0 q.0 ≡ true = grind (arith, nat_tests) in
      ap (λ r. is_eq (ordering_then r (nat_cmp p.1 q.1))) tie ∙ second ∙ ap (λ b. b && eqb p.1 q.1) (sym yes)
  | inr differ ↦
      let no : eqb p.0 q.0 ≡ false = grind (arith, nat_tests) in
      then_apart (nat_cmp p.0 q.0) (nat_cmp p.1 q.1) (cmp_apart p.0 q.0 differ) ∙ ap (λ b. b && eqb p.1 q.1) (sym no)
]
  where
    second : is_eq (nat_cmp p.1 q.1) ≡ eqb p.1 q.1
    second = elim (cases_eq p.1 q.1) [
      | inl same ↦
          let tie : nat_cmp p.1 q.1 ≡ Equal = grind (arith, nat_tests) in
          let yes : eqb p.1 q.1 ≡ true = grind (arith, nat_tests) in
          ap is_eq tie ∙ sym yes
      | inr differ ↦ let no : eqb p.1 q.1 ≡ false = grind (arith, nat_tests) in cmp_apart p.1 q.1 differ ∙ sym no
    ]

-- in one directory, and in two
pub tie_in : (dir m n : ℕ) → eq_by_cmp place_cmp (dir, m) (dir, n) ≡ eqb m n
tie_in dir m n = let yes : eqb dir dir ≡ true = grind (arith, nat_tests) in same_place (dir, m) (dir, n) ∙ ap (λ b. b && eqb m n) yes

pub no_tie_over : (p q : Place) → p.0 ≢ q.0 → eq_by_cmp place_cmp p q ≡ false
no_tie_over p q differ = let no : eqb p.0 q.0 ≡ false = grind (arith, nat_tests) in same_place p q ∙ ap (λ b. b && eqb p.1 q.1) no
