-- The next name of a directory.
use Rattle.std.proofs.Common.{◌≡◌, ℕ, zero, suc, ◌+◌, ◌<◌, ◌≤◌, Bool, true, false, cond, eqb, ltb, List, [], ◌∷◌, length, get_or, Option, Some, None, Ordering, sym, refl, ap, ◌∙◌, inl, inr, arith}
use Rattle.std.specs.Prelude.{◌&&◌}
use Rattle.std.specs.List.{find, All, AllWithin}
use Rattle.std.specs.Ordering.{nat_cmp, is_lt, is_le, ordering_then, ordering_index}
use Rattle.std.specs.List.Sorted.{IsPartitionedBy, IsNonDecreasingBy}
use Rattle.std.specs.declared.cmp.Ordering.TheVariants.{Less, Equal, Greater}
use Rattle.std.proofs.lemmas.Bool.{cases_lt, cases_eq}
use Rattle.std.proofs.lemmas.Bool.Decides.{nat_tests}
use Rattle.std.proofs.lemmas.List.Sorted.{searchable_from_sorted, IsNonDecreasingBy-from_all_adjacent}
use mathlib.Core.Bool.{false≢true}
use Rattle.dir_table.specs.declared.calls.DirRow.{DirRow}
use Rattle.dir_table.specs.Names.{Place, place_cmp, entry_of, entries_of}
use Rattle.dir_table.specs.Rows.{AreInOrder, BeginAfter}
use Rattle.dir_table.specs.Answers.{comes_after}
use Rattle.dir_table.proofs.Order.{places_total, place_of_row, rise}

cmp_less : (m n : ℕ) → m < n → nat_cmp m n ≡ Less
cmp_less m n below = grind (arith, nat_tests)

-- a place that is not below another is not in a lesser directory
no_lesser : (a b : Place) → is_lt (place_cmp b a) ≡ false → a.0 ≤ b.0
no_lesser a b no_less = elim (cases_lt b.0 a.0) [
  | inl below ↦ absurd (false≢true (sym no_less ∙ ap (λ r. is_lt (ordering_then r (nat_cmp b.1 a.1))) (cmp_less b.0 a.0 below)))
  | inr above ↦ above
]

-- the directories of rows in order don't fall
directories_rise : (rows : List DirRow) → AreInOrder rows → IsNonDecreasingBy (λ row. row.dir) rows
directories_rise rows sorted = IsNonDecreasingBy-from_all_adjacent (λ row. row.dir) rows (λ k d in_range.
    no_lesser (place_of_row (get_or rows k d)) (place_of_row (get_or rows (k + 1) d)) (rise rows sorted k d (omega arith) in_range))

-- an entry of the directory, after this name
abbrev pub is_next : ℕ → Option ℕ → Place × ℕ → Bool
is_next dir bound e = (eqb e.0.0 dir) && comes_after bound e.0.1

find_hit : (test : Place × ℕ → Bool) (rows : List DirRow) (i : ℕ) (d : DirRow) → AllWithin (λ row. test (entry_of row) ≡ false) rows 0 i → i < length rows
    → test (entry_of (get_or rows i d)) ≡ true → find test (entries_of rows) ≡ Some (entry_of (get_or rows i d))
find_hit test [] i d misses in_range hit = absurd (omega arith)
find_hit test (row ∷ rows) zero d misses in_range hit = ap (λ b. cond b (Some (entry_of row)) (find test (entries_of rows))) hit
find_hit test (row ∷ rows) (suc i) d misses in_range hit =
    ap (λ b. cond b (Some (entry_of row)) (find test (entries_of rows))) (misses 0 row (omega arith) (omega arith))
    ∙ find_hit test rows i d (λ k x from below. misses (suc k) x (omega arith) (omega arith)) (omega arith) hit

find_miss : (test : Place × ℕ → Bool) (rows : List DirRow) → All (λ row. test (entry_of row) ≡ false) rows → find test (entries_of rows) ≡ None
find_miss test [] misses = refl
find_miss test (row ∷ rows) misses =
    ap (λ b. cond b (Some (entry_of row)) (find test (entries_of rows))) (misses 0 row (omega arith)) ∙ find_miss test rows (λ k x below. misses (suc k) x (omega arith))

and_is_true : (a b : Bool) → a ≡ true → b ≡ true → (a && b) ≡ true
and_is_true a b first second = ap (λ x. x && b) first ∙ second

no_first : (a b : Bool) → a ≡ false → (a && b) ≡ false
no_first a b first = ap (λ x. x && b) first

-- the row where the names begin is the next one
pub next_there : (rows : List DirRow) (dir : ℕ) (bound : Option ℕ) (i : ℕ) (d : DirRow) → BeginAfter rows dir bound i → i < length rows
    → (get_or rows i d).dir ≡ dir → find (is_next dir bound) (entries_of rows) ≡ Some (entry_of (get_or rows i d))
next_there rows dir bound i d begin in_range same =
    find_hit (is_next dir bound) rows i d begin.before in_range
    (let yes : eqb (get_or rows i d).dir dir ≡ true = grind (arith, nat_tests) in and_is_true _ _ yes (begin.later i d (omega arith) in_range same))

-- where that row is of another directory, or there is none, there is no next name
pub next_absent : (rows : List DirRow) (dir : ℕ) (bound : Option ℕ) (i : ℕ) → AreInOrder rows → BeginAfter rows dir bound i
    → ((d : DirRow) → i < length rows → (get_or rows i d).dir ≡ dir → ⊥) → find (is_next dir bound) (entries_of rows) ≡ None
next_absent rows dir bound i sorted begin other = find_miss (is_next dir bound) rows (λ k d below. elim (cases_lt k i) [
  | inl before ↦ begin.before k d (omega arith) before
  | inr from ↦
      let rises = directories_rise rows sorted i k d from below in
      let least = begin.directories i d (omega arith) (omega arith) in
      let differs = other d (omega arith) in
      let apart : eqb (get_or rows k d).dir dir ≡ false = grind (arith, nat_tests) in
      no_first _ _ apart
])

le_stays : (r s : Ordering) → ordering_index r ≤ ordering_index s → is_le s ≡ true → is_le r ≡ true
le_stays Less s below h = refl
le_stays Equal s below h = refl
le_stays Greater Less below h = absurd (omega arith)
le_stays Greater Equal below h = absurd (omega arith)
le_stays Greater Greater below h = h

-- the rows up to a place come first
pub up_to : (rows : List DirRow) (place : Place) → AreInOrder rows → IsPartitionedBy (λ row. is_le (place_cmp (place_of_row row) place)) rows
up_to rows place sorted i j d below in_range h =
    le_stays _ _ (searchable_from_sorted places_total place_of_row rows place (rise rows sorted) i j d below in_range) h

cmp_equal : (m n : ℕ) → m ≡ n → nat_cmp m n ≡ Equal
cmp_equal m n same = grind (arith, nat_tests)

cmp_greater : (m n : ℕ) → n < m → nat_cmp m n ≡ Greater
cmp_greater m n above = grind (arith, nat_tests)

le_not_later : (a place : Place) → is_le (place_cmp a place) ≡ true → ((eqb a.0 place.0) && ltb place.1 a.1) ≡ false
le_not_later a place h = elim (cases_eq a.0 place.0) [
  | inl same ↦ elim (cases_lt place.1 a.1) [
    | inl later ↦ absurd (false≢true (sym (ap is_le (ap (λ r. ordering_then r (nat_cmp a.1 place.1)) (cmp_equal a.0 place.0 same) ∙ cmp_greater a.1 place.1 later)) ∙ h))
    | inr earlier ↦ let no : ltb place.1 a.1 ≡ false = grind (arith, nat_tests) in let yes : eqb a.0 place.0 ≡ true = grind (arith, nat_tests) in ap (λ x. x && ltb place.1 a.1) yes ∙ no
  ]
  | inr other ↦ let apart : eqb a.0 place.0 ≡ false = grind (arith, nat_tests) in no_first _ _ apart
]

above_directory : (a place : Place) → is_le (place_cmp a place) ≡ false → place.0 ≤ a.0
above_directory a place h = elim (cases_lt a.0 place.0) [
  | inl below ↦ absurd (false≢true (sym h ∙ ap (λ r. is_le (ordering_then r (nat_cmp a.1 place.1))) (cmp_less a.0 place.0 below)))
  | inr above ↦ above
]

above_name : (a place : Place) → is_le (place_cmp a place) ≡ false → a.0 ≡ place.0 → ltb place.1 a.1 ≡ true
above_name a place h same = elim (cases_lt place.1 a.1) [
  | inl later ↦ grind (arith, nat_tests)
  | inr earlier ↦
      let tie = ap (λ r. ordering_then r (nat_cmp a.1 place.1)) (cmp_equal a.0 place.0 same) in
      elim (cases_eq a.1 place.1) [
        | inl equal ↦ absurd (false≢true (sym h ∙ ap is_le (tie ∙ cmp_equal a.1 place.1 equal)))
        | inr differs ↦ absurd (false≢true (sym h ∙ ap is_le (tie ∙ cmp_less a.1 place.1 (omega arith))))
      ]
]

-- the names after none begin behind the lesser directories
pub begin_first : (rows : List DirRow) (dir i : ℕ) → i ≤ length rows → AllWithin (λ row. ltb row.dir dir ≡ true) rows 0 i
    → AllWithin (λ row. ltb row.dir dir ≡ false) rows i (length rows) → BeginAfter rows dir None i
begin_first rows dir i within less not_less = record {
  within = within;
  before = λ k d from below. let h = less k d from below in let apart : eqb (get_or rows k d).dir dir ≡ false = grind (arith, nat_tests) in no_first _ _ apart;
  directories = λ k d from below. let h = not_less k d from below in grind (arith, nat_tests);
  later = λ k d from below same. refl;
}

-- those after a name begin behind it
pub begin_later : (rows : List DirRow) (dir name i : ℕ) → i ≤ length rows → AllWithin (λ row. is_le (place_cmp (place_of_row row) (dir, name)) ≡ true) rows 0 i
    → AllWithin (λ row. is_le (place_cmp (place_of_row row) (dir, name)) ≡ false) rows i (length rows) → BeginAfter rows dir (Some name) i
begin_later rows dir name i within up above = record {
  within = within;
  before = λ k d from below. le_not_later (place_of_row (get_or rows k d)) (dir, name) (up k d from below);
  directories = λ k d from below. above_directory (place_of_row (get_or rows k d)) (dir, name) (above k d from below);
  later = λ k d from below same. above_name (place_of_row (get_or rows k d)) (dir, name) (above k d from below) same;
}
