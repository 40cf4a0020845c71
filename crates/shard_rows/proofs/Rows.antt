-- The rows of all directories, one directory after another.
use Rattle.std.proofs.Common.{◌≡◌, ℕ, zero, suc, ◌+◌, ◌<◌, ◌≤◌, Bool, true, false, cond, eqb, ltb, List, [], ◌∷◌, ◌++◌, drop, length, get_or, sym, refl, ap, ◌∙◌, subst, inl, inr, arith}
use Rattle.std.specs.Prelude.{IsTrue, filter}
use Rattle.std.specs.List.{AllByRecursion}
use Rattle.std.specs.Ordering.{nat_cmp, is_lt, ordering_then}
use Rattle.std.specs.declared.cmp.Ordering.TheVariants.{Less, Equal, Greater}
use Rattle.std.specs.FinMap.{is_sorted}
use Rattle.std.specs.FinMap.Entries.{below_all}
use Rattle.std.proofs.lemmas.Bool.{cases_lt, cases_eq}
use Rattle.std.proofs.lemmas.Bool.Decides.{nat_tests}
use Rattle.std.proofs.lemmas.List.{length-append}
use Rattle.std.proofs.Math.Seq.{drop-cons}
use mathlib.Core.Bool.{false≢true}
use Rattle.dir_table.specs.declared.calls.DirRow.{DirRow}
use Rattle.dir_table.specs.Names.{Place, place_cmp}
use Rattle.dir_table.proofs.Order.{both_true}
use Rattle.shard_rows.specs.Tables.{rows_from}

-- the rows that are left, from a place on
pub rows_at : (dir place : ℕ) (numbers : List ℕ) (n : ℕ) → place < length numbers → n ≡ get_or numbers place n
    → rows_from dir place (drop place numbers) ≡ rows_from dir place (n ∷ drop (place + 1) numbers)
rows_at dir place numbers n within is =
    ap (rows_from dir place) (drop-cons numbers place n within ∙ ap (λ m. m ∷ drop (suc place) numbers) (sym is) ∙ ap (λ k. n ∷ drop k numbers) {x = suc place} {y = place + 1} (omega arith))

no_later : (a b : Place) → IsTrue (is_lt (place_cmp a b)) → a.0 ≤ b.0
no_later a b less = elim (cases_lt b.0 a.0) [
  | inl above ↦ let greater : nat_cmp a.0 b.0 ≡ Greater = grind (arith, nat_tests) in absurd (false≢true (sym (ap (λ r. is_lt (ordering_then r (nat_cmp a.1 b.1))) greater) ∙ less))
  | inr below ↦ below
]

none_below : (k : ℕ) (x : Place) (es : List (Place × ℕ)) → k ≤ x.0 → IsTrue (below_all place_cmp x es) → filter (λ e. ltb e.0.0 k) es ≡ []
none_below k x [] from below = refl
none_below k x (e ∷ es) from below =
    let parts = both_true _ _ below in
    let later = no_later x e.0 parts.0 in
    let miss : ltb e.0.0 k ≡ false = grind (arith, nat_tests) in
    ap (λ b. cond b (e ∷ filter (λ e. ltb e.0.0 k) es) (filter (λ e. ltb e.0.0 k) es)) miss ∙ none_below k x es from parts.1

-- the entries of the directories up to one are those of the lesser ones, and then its own
pub up_to_next : (k : ℕ) (es : List (Place × ℕ)) → IsTrue (is_sorted place_cmp es)
    → filter (λ e. ltb e.0.0 (k + 1)) es ≡ filter (λ e. ltb e.0.0 k) es ++ filter (λ e. eqb e.0.0 k) es
up_to_next k [] sorted = refl
up_to_next k (x ∷ es) sorted =
    let parts = both_true _ _ sorted in
    let rest = up_to_next k es parts.1 in
    let next = filter (λ e. ltb e.0.0 (k + 1)) es in
    let lesser = filter (λ e. ltb e.0.0 k) es in
    let own = filter (λ e. eqb e.0.0 k) es in
    elim (cases_lt x.0.0 k) [
      | inl less ↦
          let a : ltb x.0.0 (k + 1) ≡ true = grind (arith, nat_tests) in
          let b : ltb x.0.0 k ≡ true = grind (arith, nat_tests) in
          let c : eqb x.0.0 k ≡ false = grind (arith, nat_tests) in
          ap (λ t. cond t (x ∷ next) next) a ∙ ap (λ l. x ∷ l) rest
          ∙ ap (λ t. cond t (x ∷ lesser) lesser ++ own) (sym b) ∙ ap (λ t. cond (ltb x.0.0 k) (x ∷ lesser) lesser ++ cond t (x ∷ own) own) (sym c)
      | inr from ↦ elim (cases_eq x.0.0 k) [
        | inl same ↦
            let a : ltb x.0.0 (k + 1) ≡ true = grind (arith, nat_tests) in
            let b : ltb x.0.0 k ≡ false = grind (arith, nat_tests) in
            let c : eqb x.0.0 k ≡ true = grind (arith, nat_tests) in
            let empty = none_below k x.0 es from parts.0 in
            ap (λ t. cond t (x ∷ next) next) a ∙ ap (λ l. x ∷ l) (rest ∙ ap (λ l. l ++ own) empty)
            ∙ ap (λ l. l ++ x ∷ own) (sym empty)
            ∙ ap (λ t. cond t (x ∷ lesser) lesser ++ x ∷ own) (sym b) ∙ ap (λ t. cond (ltb x.0.0 k) (x ∷ lesser) lesser ++ cond t (x ∷ own) own) (sym c)
        | inr differ ↦
            let a : ltb x.0.0 (k + 1) ≡ false = grind (arith, nat_tests) in
            let b : ltb x.0.0 k ≡ false = grind (arith, nat_tests) in
            let c : eqb x.0.0 k ≡ false = grind (arith, nat_tests) in
            ap (λ t. cond t (x ∷ next) next) a ∙ rest
            ∙ ap (λ t. cond t (x ∷ lesser) lesser ++ own) (sym b) ∙ ap (λ t. cond (ltb x.0.0 k) (x ∷ lesser) lesser ++ cond t (x ∷ own) own) (sym c)
      ]
    ]

pub all_below : (k : ℕ) (es : List (Place × ℕ)) → AllByRecursion (λ e. e.0.0 < k) es → filter (λ e. ltb e.0.0 k) es ≡ es
all_below k [] all = refl
all_below k (e ∷ es) all =
    let first = all.0 in
    let yes : ltb e.0.0 k ≡ true = grind (arith, nat_tests) in
    ap (λ b. cond b (e ∷ filter (λ e. ltb e.0.0 k) es) (filter (λ e. ltb e.0.0 k) es)) yes ∙ ap (λ l. e ∷ l) (all_below k es all.1)

pub none_of_0 : (es : List (Place × ℕ)) → filter (λ e. ltb e.0.0 0) es ≡ []
none_of_0 [] = refl
none_of_0 (e ∷ es) = let miss : ltb e.0.0 0 ≡ false = grind (arith, nat_tests) in ap (λ b. cond b (e ∷ filter (λ e. ltb e.0.0 0) es) (filter (λ e. ltb e.0.0 0) es)) miss ∙ none_of_0 es

-- while a row is left, there is memory for it
pub room_left : (rows old : List DirRow) (dir place n : ℕ) (numbers : List ℕ) → place < length numbers → n ≡ get_or numbers place n → 0 < n
    → rows ++ rows_from dir place (drop place numbers) ≡ old ++ rows_from dir 0 numbers → length rows < length old + length (rows_from dir 0 numbers)
room_left rows old dir place n numbers within is positive told =
    let left = some_row dir place n (drop (place + 1) numbers) positive in
    let at = ap length (rows_at dir place numbers n within is) in
    let lengths = sym (length-append rows (rows_from dir place (drop place numbers))) ∙ ap length told ∙ length-append old (rows_from dir 0 numbers) in
    omega (arith, left, at, lengths)
  where
    some_row : (dir place n : ℕ) (rest : List ℕ) → 0 < n → 0 < length (rows_from dir place (n ∷ rest))
    some_row dir place zero rest positive = absurd (omega arith)
    some_row dir place (suc n) rest positive = omega arith
