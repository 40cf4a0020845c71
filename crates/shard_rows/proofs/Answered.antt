-- What the rows of one directory answer, by its numbers.
use Rattle.std.proofs.Common.{◌≡◌, ◌≢◌, ℕ, zero, suc, ◌+◌, ◌<◌, ◌≤◌, Bool, true, false, cond, eqb, ltb, leb, List, [], ◌∷◌, length, get_or, slice_index, Option, Some, None, sym, refl, ap, ◌∙◌, subst, inl, inr, arith}
use Rattle.std.specs.Prelude.{◌&&◌, find, filter, is_some}
use Rattle.std.specs.Option.{unwrap_or}
use Rattle.std.specs.FinMap.{get}
use Rattle.std.proofs.lemmas.Bool.{cases_lt, cases_eq}
use Rattle.std.proofs.lemmas.Bool.Decides.{nat_tests}
use Rattle.std.proofs.lemmas.List.Sums.{sum_by-cons}
use Rattle.dir_table.specs.Names.{Place, Names, entries_of}
use Rattle.dir_table.specs.Rows.{names_of}
use Rattle.dir_table.specs.Answers.{comes_after, next_name, count_in, name_reply, number_reply}
use Rattle.dir_table.specs.declared.calls.DirReply.{DirReply}
use Rattle.dir_table.specs.declared.calls.DirReply.TheVariants.{Ino, Done, Exists, Absent, Number, Name, End}
use Rattle.dir_table.proofs.NamesKept.{entries_names}
use Rattle.shard_rows.specs.Tables.{rows_from, rows_of, held, count_of}
use Rattle.shard_rows.specs.Shares.{start_of}
use Rattle.shard_rows.proofs.Listed.{answer_of, rows_in_order, get_row}

comes_from : (bound : Option ℕ) (name : ℕ) → start_of bound ≤ name → comes_after bound name ≡ true
comes_from None name from = refl
comes_from (Some after) name from = grind (arith, nat_tests)

comes_not : (bound : Option ℕ) (name : ℕ) → name < start_of bound → comes_after bound name ≡ false
comes_not None name below = absurd (omega arith)
comes_not (Some after) name below = grind (arith, nat_tests)

module _ (dir : ℕ) where
  count_rows : (name : ℕ) (numbers : List ℕ) → length (filter (λ e. eqb e.0.0 dir) (entries_of (rows_from dir name numbers))) ≡ count_of numbers
  count_rows name [] = refl
  count_rows name (zero ∷ numbers) = count_rows (suc name) numbers ∙ sym (sum_by-cons held 0 numbers ∙ omega arith)
  count_rows name (suc n ∷ numbers) =
      let yes : eqb dir dir ≡ true = grind (arith, nat_tests) in
      let rest = filter (λ e. eqb e.0.0 dir) (entries_of (rows_from dir (suc name) numbers)) in
      ap (λ b. length (cond b (((dir, name), suc n) ∷ rest) rest)) yes ∙ ap suc (count_rows (suc name) numbers) ∙ sym (sum_by-cons held (suc n) numbers ∙ omega arith)

  -- the test of an entry that comes after the bound
  abbrev is_next : Option ℕ → Place × ℕ → Bool
  is_next bound e = eqb e.0.0 dir && comes_after bound e.0.1

  passes_by : (bound : Option ℕ) (name n : ℕ) (b : Bool) → comes_after bound name ≡ b → is_next bound ((dir, name), n) ≡ b
  passes_by bound name n b is = let yes : eqb dir dir ≡ true = grind (arith, nat_tests) in ap (λ x. x && comes_after bound name) yes ∙ is

  next_row : (bound : Option ℕ) (j name : ℕ) (numbers : List ℕ) → start_of bound ≤ name + j → 0 < get_or numbers j 0
      → ((i : ℕ) → start_of bound ≤ name + i → i < j → get_or numbers i 0 ≡ 0)
      → find (is_next bound) (entries_of (rows_from dir name numbers)) ≡ Some ((dir, name + j), get_or numbers j 0)
  next_row bound j name [] from there least = absurd (omega arith)
  next_row bound zero name (zero ∷ numbers) from there least = absurd (omega arith)
  next_row bound (suc j) name (zero ∷ numbers) from there least =
      next_row bound j (suc name) numbers (omega arith) there (λ i later below. least (suc i) (omega arith) (omega arith))
      ∙ ap (λ m. Some ((dir, m), get_or numbers j 0)) {x = suc name + j} {y = name + suc j} (omega arith)
  next_row bound zero name (suc n ∷ numbers) from there least =
      ap (λ b. cond b (Some ((dir, name), suc n)) (find (is_next bound) (entries_of (rows_from dir (suc name) numbers))))
      (passes_by bound name (suc n) true (comes_from bound name (omega arith)))
      ∙ ap (λ m. Some ((dir, m), suc n)) {x = name} {y = name + 0} (omega arith)
  next_row bound (suc j) name (suc n ∷ numbers) from there least =
      ap (λ b. cond b (Some ((dir, name), suc n)) (find (is_next bound) (entries_of (rows_from dir (suc name) numbers))))
      (passes_by bound name (suc n) false (elim (cases_lt name (start_of bound)) [
        | inl below ↦ comes_not bound name below
        | inr above ↦ absurd (let none = least 0 (omega arith) (omega arith) in positive n none)
      ]))
      ∙ next_row bound j (suc name) numbers (omega arith) there (λ i later below. least (suc i) (omega arith) (omega arith))
      ∙ ap (λ m. Some ((dir, m), get_or numbers j 0)) {x = suc name + j} {y = name + suc j} (omega arith)
    where
      positive : (n : ℕ) → suc n ≡ 0 → ⊥
      positive n is = omega arith

  no_next_row : (bound : Option ℕ) (name : ℕ) (numbers : List ℕ) → ((i : ℕ) → start_of bound ≤ name + i → get_or numbers i 0 ≡ 0)
      → find (is_next bound) (entries_of (rows_from dir name numbers)) ≡ None
  no_next_row bound name [] none = refl
  no_next_row bound name (zero ∷ numbers) none = no_next_row bound (suc name) numbers (λ i later. none (suc i) (omega arith))
  no_next_row bound name (suc n ∷ numbers) none =
      ap (λ b. cond b (Some ((dir, name), suc n)) (find (is_next bound) (entries_of (rows_from dir (suc name) numbers))))
      (passes_by bound name (suc n) false (elim (cases_lt name (start_of bound)) [
        | inl below ↦ comes_not bound name below
        | inr above ↦ absurd (positive n (none 0 (omega arith)))
      ]))
      ∙ no_next_row bound (suc name) numbers (λ i later. none (suc i) (omega arith))
    where
      positive : (n : ℕ) → suc n ≡ 0 → ⊥
      positive n is = omega arith

  module _ (numbers : List ℕ) where
    abbrev names : Names
    names = names_of (rows_of dir numbers)

    pub count_is : count_in names dir ≡ count_of numbers
    count_is = ap (λ es. length (filter (λ e. eqb e.0.0 dir) es)) (entries_names (rows_of dir numbers) (rows_in_order dir 0 numbers)) ∙ count_rows 0 numbers

    pub next_is : (bound : Option ℕ) (name : ℕ) → start_of bound ≤ name → 0 < slice_index numbers name
        → ((other : ℕ) → start_of bound ≤ other → other < name → slice_index numbers other ≡ 0) → name_reply (next_name names dir bound) ≡ Name name
    next_is bound name from there least =
        ap name_reply (ap (find (is_next bound)) (entries_names (rows_of dir numbers) (rows_in_order dir 0 numbers))
        ∙ next_row bound name 0 numbers (omega arith) there (λ i later below. least i (omega arith) below))
        ∙ ap Name {x = 0 + name} {y = name} (omega arith)

    pub next_ends : (bound : Option ℕ) → ((other : ℕ) → start_of bound ≤ other → slice_index numbers other ≡ 0) → name_reply (next_name names dir bound) ≡ End
    next_ends bound none =
        ap name_reply (ap (find (is_next bound)) (entries_names (rows_of dir numbers) (rows_in_order dir 0 numbers))
        ∙ no_next_row bound 0 numbers (λ i later. none i (omega arith)))

    pub there_or : (name : ℕ) → unwrap_or (get names (dir, name)) 0 ≡ slice_index numbers name
    there_or name = ap (λ o. unwrap_or o 0) (get_row dir numbers name) ∙ value (slice_index numbers name)
      where
        value : (n : ℕ) → unwrap_or (answer_of n) 0 ≡ n
        value zero = refl
        value (suc n) = refl

    some_positive : (n : ℕ) → 0 < n → answer_of n ≡ Some n
    some_positive zero positive = absurd (omega arith)
    some_positive (suc n) positive = refl

    pub is_there : (name n : ℕ) → n ≡ slice_index numbers name → 0 < n → get names (dir, name) ≡ Some n
    is_there name n is positive = get_row dir numbers name ∙ ap answer_of (sym is) ∙ some_positive n positive

    pub is_absent : (name n : ℕ) → n ≡ slice_index numbers name → n ≡ 0 → get names (dir, name) ≡ None
    is_absent name n is none = get_row dir numbers name ∙ ap answer_of (sym is ∙ none)
