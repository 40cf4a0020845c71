-- Limits of places, and what a cut there says of a directory and its names.
use Rattle.std.proofs.Common.{◌≡◌, ℕ, zero, suc, ◌+◌, ◌-◌, ◌<◌, ◌≤◌, true, false, ltb, List, [], ◌∷◌, length, get_or, Ordering, Some, None, sym, refl, ap, ◌∙◌, subst, inl, inr, arith}
use Rattle.std.specs.Ordering.{nat_cmp, is_lt, is_le, ordering_then, ordering_index}
use Rattle.std.specs.List.Sorted.{IsPartitionedBy}
use Rattle.std.specs.declared.cmp.Ordering.TheVariants.{Less, Equal, Greater}
use Rattle.std.proofs.lemmas.Bool.{cases_lt, cases_eq, false≢true}
use Rattle.std.proofs.lemmas.Bool.Decides.{nat_tests}
use Rattle.std.proofs.lemmas.List.Sorted.{searchable_from_sorted}
use Rattle.dir_table.specs.declared.calls.DirRow.{DirRow}
use Rattle.dir_table.specs.Names.{Place, place_cmp, entries_of}
use Rattle.dir_table.specs.Rows.{AreInOrder, IsGapFor, BeginAfter}
use Rattle.dir_table.specs.Blocks.{is_below, IsCut}
use Rattle.dir_table.proofs.Order.{places_total, places_exact, both_true, reversed, place_of_row, below_at, rise}
use Rattle.dir_table.proofs.Next.{begin_first, begin_later}
use Rattle.dir_table.proofs.Places.{gap_from}

lt_stays : (r s : Ordering) → ordering_index r ≤ ordering_index s → is_lt s ≡ true → is_lt r ≡ true
lt_stays Less s below h = refl
lt_stays r Equal below h = absurd (false≢true h)
lt_stays r Greater below h = absurd (false≢true h)
lt_stays Equal Less below h = absurd (omega arith)
lt_stays Greater Less below h = absurd (omega arith)

-- rows below a limit come first
pub below_first : (rows : List DirRow) (limit : Place) → AreInOrder rows → IsPartitionedBy (is_below limit) rows
below_first rows limit sorted i j d below in_range h =
    lt_stays _ _ (searchable_from_sorted places_total place_of_row rows limit (rise rows sorted) i j d below in_range) h

-- no name is below the first
pub below_directory : (a : Place) (dir : ℕ) → is_lt (place_cmp a (dir, 0)) ≡ ltb a.0 dir
below_directory a dir = elim (cases_lt a.0 dir) [
  | inl below ↦
      let less : nat_cmp a.0 dir ≡ Less = grind (arith, nat_tests) in
      ap (λ r. is_lt (ordering_then r (nat_cmp a.1 0))) less ∙ grind (arith, nat_tests)
  | inr above ↦ elim (cases_eq a.0 dir) [
    | inl same ↦
        let tie : nat_cmp a.0 dir ≡ Equal = grind (arith, nat_tests) in
        let least : is_lt (nat_cmp a.1 0) ≡ false = elim (cases_eq a.1 0) [
          | inl none ↦ let e : nat_cmp a.1 0 ≡ Equal = grind (arith, nat_tests) in ap is_lt e
          | inr some ↦ let g : nat_cmp a.1 0 ≡ Greater = grind (arith, nat_tests) in ap is_lt g
        ] in
        ap (λ r. is_lt (ordering_then r (nat_cmp a.1 0))) tie ∙ least ∙ grind (arith, nat_tests)
    | inr differs ↦
        let more : nat_cmp a.0 dir ≡ Greater = grind (arith, nat_tests) in
        ap (λ r. is_lt (ordering_then r (nat_cmp a.1 0))) more ∙ grind (arith, nat_tests)
  ]
]

name_step : (m n : ℕ) → is_lt (nat_cmp m (n + 1)) ≡ is_le (nat_cmp m n)
name_step m n = elim (cases_lt m n) [
  | inl below ↦
      let less : nat_cmp m (n + 1) ≡ Less = grind (arith, nat_tests) in let also : nat_cmp m n ≡ Less = grind (arith, nat_tests) in
      ap is_lt less ∙ sym (ap is_le also)
  | inr above ↦ elim (cases_eq m n) [
    | inl same ↦
        let less : nat_cmp m (n + 1) ≡ Less = grind (arith, nat_tests) in let tie : nat_cmp m n ≡ Equal = grind (arith, nat_tests) in
        ap is_lt less ∙ sym (ap is_le tie)
    | inr differs ↦
        let more : nat_cmp m n ≡ Greater = grind (arith, nat_tests) in
        let least : is_lt (nat_cmp m (n + 1)) ≡ false = elim (cases_eq m (n + 1)) [
          | inl next ↦ let e : nat_cmp m (n + 1) ≡ Equal = grind (arith, nat_tests) in ap is_lt e
          | inr later ↦ let g : nat_cmp m (n + 1) ≡ Greater = grind (arith, nat_tests) in ap is_lt g
        ] in
        least ∙ sym (ap is_le more)
  ]
]

then_step : (r s t : Ordering) → is_lt s ≡ is_le t → is_lt (ordering_then r s) ≡ is_le (ordering_then r t)
then_step Less s t same = refl
then_step Equal s t same = same
then_step Greater s t same = refl

-- up to a name is below the next one
pub below_name : (a : Place) (dir name : ℕ) → is_lt (place_cmp a (dir, name + 1)) ≡ is_le (place_cmp a (dir, name))
below_name a dir name = then_step (nat_cmp a.0 dir) _ _ (name_step a.1 name)

-- where the names of the directory begin
pub begin_at_first : (rows : List DirRow) (dir i : ℕ) → IsCut rows (dir, 0) i → BeginAfter rows dir None i
begin_at_first rows dir i cut = begin_first rows dir i cut.within
    (λ k d from below. sym (below_directory (place_of_row (get_or rows k d)) dir) ∙ cut.before k d from below)
    (λ k d from below. sym (below_directory (place_of_row (get_or rows k d)) dir) ∙ cut.behind k d from below)

pub begin_behind : (rows : List DirRow) (dir name i : ℕ) → IsCut rows (dir, name + 1) i → BeginAfter rows dir (Some name) i
begin_behind rows dir name i cut = begin_later rows dir name i cut.within
    (λ k d from below. sym (below_name (place_of_row (get_or rows k d)) dir name) ∙ cut.before k d from below)
    (λ k d from below. sym (below_name (place_of_row (get_or rows k d)) dir name) ∙ cut.behind k d from below)

-- no row has the place of an earlier one
pub rows_rise : (rows : List DirRow) (i j : ℕ) (d : DirRow) → AreInOrder rows → i < j → j < length rows
    → place_cmp (place_of_row (get_or rows i d)) (place_of_row (get_or rows j d)) ≡ Less
rows_rise [] i j d sorted below in_range = absurd (omega arith)
rows_rise (row ∷ rows) i zero d sorted below in_range = absurd (omega arith)
rows_rise (row ∷ rows) zero (suc j) d sorted below in_range = below_at (place_of_row row) rows (both_true _ _ sorted).0 j d (omega arith)
rows_rise (row ∷ rows) (suc i) (suc j) d sorted below in_range = rows_rise rows i j d (both_true _ _ sorted).1 (omega arith) (omega arith)

less_or_equal : (r : Ordering) → is_le r ≡ true → (r ≡ Equal → ⊥) → r ≡ Less
less_or_equal Less h differs = refl
less_or_equal Equal h differs = absurd (differs refl)
less_or_equal Greater h differs = absurd (false≢true h)

greater_by : (r : Ordering) → is_le r ≡ false → r ≡ Greater
greater_by Less h = absurd (false≢true (sym h))
greater_by Equal h = absurd (false≢true (sym h))
greater_by Greater h = refl

up_to : (rows : List DirRow) (place : Place) (i : ℕ) → IsCut rows (place.0, place.1 + 1) i → (j : ℕ) (d : DirRow) → j < i
    → is_le (place_cmp (place_of_row (get_or rows j d)) place) ≡ true
up_to rows place i cut j d below = sym (below_name (place_of_row (get_or rows j d)) place.0 place.1) ∙ cut.before j d (omega arith) below

-- the row before the cut is the only one that may have the place
pub gap_at_cut : (rows : List DirRow) (place : Place) (i : ℕ) → AreInOrder rows → IsCut rows (place.0, place.1 + 1) i
    → ((d : DirRow) → 0 < i → place_cmp (place_of_row (get_or rows (i - 1) d)) place ≡ Equal → ⊥) → IsGapFor (entries_of rows) place i
gap_at_cut rows place i sorted cut differs = gap_from rows place i cut.within
    (λ j d below. less_or_equal _ (up_to rows place i cut j d below) (λ tie. elim (cases_lt (suc j) i) [
      | inl earlier ↦
          let is = places_exact _ _ tie in
          let above = subst (λ p. place_cmp p (place_of_row (get_or rows (i - 1) d)) ≡ Less) is (rows_rise rows j (i - 1) d sorted (omega arith) (omega (arith, cut.within))) in
          false≢true (sym (ap is_le (reversed place (place_of_row (get_or rows (i - 1) d)) Less above)) ∙ up_to rows place i cut (i - 1) d (omega arith))
      | inr last ↦ differs d (omega arith) (ap (λ n. place_cmp (place_of_row (get_or rows n d)) place) {x = i - 1} {y = j} (omega arith) ∙ tie)
    ]))
    (λ j d from below. greater_by _ (sym (below_name (place_of_row (get_or rows j d)) place.0 place.1) ∙ cut.behind j d from below))
