-- The rows that numbers by name are: each name that is there, in order.
use Rattle.std.proofs.Common.{◌≡◌, ◌≢◌, ℕ, zero, suc, ◌+◌, ◌-◌, ◌<◌, ◌≤◌, Bool, true, false, cond, eqb, ltb, leb, List, [], ◌∷◌, length, get_or, slice_index, Option, Some, None, sym, refl, ap, ◌∙◌, subst, inl, inr, arith}
use Rattle.std.specs.Prelude.{IsTrue, ◌&&◌}
use Rattle.std.specs.Ordering.{nat_cmp, is_lt, is_eq, eq_by_cmp, ordering_then}
use Rattle.std.specs.declared.cmp.Ordering.TheVariants.{Less, Equal, Greater}
use Rattle.std.specs.FinMap.{get, insert, remove, empty, find, get-insert, get-remove, get-empty, same_map, is_sorted}
use Rattle.std.specs.FinMap.Entries.{below_all}
use Rattle.std.proofs.lemmas.Bool.{cases_lt, cases_eq}
use Rattle.std.proofs.lemmas.Bool.Decides.{nat_tests}
use Rattle.dir_table.specs.declared.calls.DirRow.{DirRow}
use Rattle.dir_table.specs.Names.{Place, Names, place_cmp, entries_of}
use Rattle.dir_table.specs.Rows.{AreInOrder, names_of}
use Rattle.dir_table.proofs.Order.{places_total, places_exact, and_true}
use Rattle.dir_table.proofs.NamesKept.{get_names}
use Rattle.dir_table.proofs.Places.{find_below}
use Rattle.shard_rows.proofs.SamePlace.{tie_in, no_tie_over}
use Rattle.shard_rows.specs.Shares.{with_number}
use Rattle.shard_rows.specs.Tables.{rows_from, rows_of, IsSet}

-- a number as a map answers it
abbrev pub answer_of : ℕ → Option ℕ
answer_of zero = None
answer_of (suc n) = Some (suc n)

-- a place of a lesser name is below
lower_place : (dir m n : ℕ) → m < n → place_cmp (dir, m) (dir, n) ≡ Less
lower_place dir m n below =
    let first : nat_cmp dir dir ≡ Equal = grind (arith, nat_tests) in
    let second : nat_cmp m n ≡ Less = grind (arith, nat_tests) in
    ap (λ r. ordering_then r (nat_cmp m n)) first ∙ second

module _ (dir : ℕ) where
  below_rows : (m name : ℕ) (numbers : List ℕ) → m < name → IsTrue (below_all place_cmp (dir, m) (entries_of (rows_from dir name numbers)))
  below_rows m name [] lower = refl
  below_rows m name (zero ∷ numbers) lower = below_rows m (suc name) numbers (omega arith)
  below_rows m name (suc n ∷ numbers) lower = and_true _ _ (ap is_lt (lower_place dir m name lower)) (below_rows m (suc name) numbers (omega arith))

  pub rows_in_order : (name : ℕ) (numbers : List ℕ) → AreInOrder (rows_from dir name numbers)
  rows_in_order name [] = refl
  rows_in_order name (zero ∷ numbers) = rows_in_order (suc name) numbers
  rows_in_order name (suc n ∷ numbers) = and_true _ _ (below_rows name (suc name) numbers (omega arith)) (rows_in_order (suc name) numbers)

  -- no row is of another directory
  find_elsewhere : (q : Place) (name : ℕ) (numbers : List ℕ) → q.0 ≢ dir → find place_cmp q (entries_of (rows_from dir name numbers)) ≡ None
  find_elsewhere q name [] differ = refl
  find_elsewhere q name (zero ∷ numbers) differ = find_elsewhere q (suc name) numbers differ
  find_elsewhere q name (suc n ∷ numbers) differ =
      ap (λ b. cond b (Some (suc n)) (find place_cmp q (entries_of (rows_from dir (suc name) numbers)))) (no_tie_over q (dir, name) differ)
      ∙ find_elsewhere q (suc name) numbers differ

  find_row : (m k name : ℕ) (numbers : List ℕ) → m ≡ name + k → find place_cmp (dir, m) (entries_of (rows_from dir name numbers)) ≡ answer_of (get_or numbers k 0)
  find_row m k name [] is = refl
  find_row m zero name (zero ∷ numbers) is = find_below (entries_of (rows_from dir (suc name) numbers)) (dir, m) (below_rows m (suc name) numbers (omega arith))
  find_row m (suc k) name (zero ∷ numbers) is = find_row m k (suc name) numbers (omega arith)
  find_row m zero name (suc n ∷ numbers) is =
      let yes : eqb m name ≡ true = grind (arith, nat_tests) in
      ap (λ b. cond b (Some (suc n)) (find place_cmp (dir, m) (entries_of (rows_from dir (suc name) numbers)))) (tie_in dir m name ∙ yes)
  find_row m (suc k) name (suc n ∷ numbers) is =
      let no : eqb m name ≡ false = grind (arith, nat_tests) in
      ap (λ b. cond b (Some (suc n)) (find place_cmp (dir, m) (entries_of (rows_from dir (suc name) numbers)))) (tie_in dir m name ∙ no)
      ∙ find_row m k (suc name) numbers (omega arith)

  module _ (numbers : List ℕ) where
    pub get_row : (m : ℕ) → get (names_of (rows_of dir numbers)) (dir, m) ≡ answer_of (slice_index numbers m)
    get_row m = get_names (rows_of dir numbers) (dir, m) (rows_in_order 0 numbers) ∙ find_row m m 0 numbers (omega arith)

    pub get_elsewhere : (q : Place) → q.0 ≢ dir → get (names_of (rows_of dir numbers)) q ≡ None
    get_elsewhere q differ = get_names (rows_of dir numbers) q (rows_in_order 0 numbers) ∙ find_elsewhere q 0 numbers differ

  module _ (old new : List ℕ) (name : ℕ) where
    -- a number that is set is an entry, and 0 is none
    pub names_insert : (n : ℕ) → IsSet old new name (suc n) → names_of (rows_of dir new) ≡ insert (names_of (rows_of dir old)) (dir, name) (suc n)
    names_insert n set = same_map places_total places_exact _ _ (λ q. elim (cases_eq q.0 dir) [
      | inl same ↦
          let at : get (names_of (rows_of dir new)) (dir, q.1) ≡ get (insert (names_of (rows_of dir old)) (dir, name) (suc n)) (dir, q.1) =
          get_row new q.1 ∙ ap answer_of (set q.1) ∙ either (eqb q.1 name) (slice_index old q.1)
          ∙ ap (cond (eqb q.1 name) (Some (suc n))) (sym (get_row old q.1))
          ∙ ap (λ b. cond b (Some (suc n)) (get (names_of (rows_of dir old)) (dir, q.1))) (sym (tie_in dir q.1 name))
          ∙ sym (get-insert places_total (names_of (rows_of dir old)) (dir, name) (suc n) (dir, q.1)) in
          subst (λ d. get (names_of (rows_of dir new)) (d, q.1) ≡ get (insert (names_of (rows_of dir old)) (dir, name) (suc n)) (d, q.1)) (sym same) at
      | inr differ ↦
          get_elsewhere new q differ ∙ sym (get_elsewhere old q differ)
          ∙ ap (λ b. cond b (Some (suc n)) (get (names_of (rows_of dir old)) q)) (sym (no_tie_over q (dir, name) differ))
          ∙ sym (get-insert places_total (names_of (rows_of dir old)) (dir, name) (suc n) q)
    ])
      where
        either : (b : Bool) (m : ℕ) → answer_of (cond b (suc n) m) ≡ cond b (Some (suc n)) (answer_of m)
        either true m = refl
        either false m = refl

    pub names_remove : IsSet old new name 0 → names_of (rows_of dir new) ≡ remove (names_of (rows_of dir old)) (dir, name)
    names_remove set = same_map places_total places_exact _ _ (λ q. elim (cases_eq q.0 dir) [
      | inl same ↦
          let at : get (names_of (rows_of dir new)) (dir, q.1) ≡ get (remove (names_of (rows_of dir old)) (dir, name)) (dir, q.1) =
          get_row new q.1 ∙ ap answer_of (set q.1) ∙ either (eqb q.1 name) (slice_index old q.1)
          ∙ ap (cond (eqb q.1 name) None) (sym (get_row old q.1))
          ∙ ap (λ b. cond b None (get (names_of (rows_of dir old)) (dir, q.1))) (sym (tie_in dir q.1 name))
          ∙ sym (get-remove places_total (names_of (rows_of dir old)) (dir, name) (dir, q.1)) in
          subst (λ d. get (names_of (rows_of dir new)) (d, q.1) ≡ get (remove (names_of (rows_of dir old)) (dir, name)) (d, q.1)) (sym same) at
      | inr differ ↦
          get_elsewhere new q differ ∙ sym (get_elsewhere old q differ)
          ∙ ap (λ b. cond b None (get (names_of (rows_of dir old)) q)) (sym (no_tie_over q (dir, name) differ))
          ∙ sym (get-remove places_total (names_of (rows_of dir old)) (dir, name) q)
    ])
      where
        either : (b : Bool) (m : ℕ) → answer_of (cond b 0 m) ≡ cond b None (answer_of m)
        either true m = refl
        either false m = refl

    pub names_set : (d number : ℕ) → d ≡ dir → IsSet old new name number → names_of (rows_of dir new) ≡ with_number dir (names_of (rows_of dir old)) d name number
    names_set d zero same set =
        let yes : eqb d dir ≡ true = grind (arith, nat_tests) in
        names_remove set ∙ ap (λ x. remove (names_of (rows_of dir old)) (x, name)) (sym same)
        ∙ ap (λ b. cond b (remove (names_of (rows_of dir old)) (d, name)) (names_of (rows_of dir old))) (sym yes)
    names_set d (suc n) same set =
        let yes : eqb d dir ≡ true = grind (arith, nat_tests) in
        names_insert n set ∙ ap (λ x. insert (names_of (rows_of dir old)) (x, name) (suc n)) (sym same)
        ∙ ap (λ b. cond b (insert (names_of (rows_of dir old)) (d, name) (suc n)) (names_of (rows_of dir old))) (sym yes)
