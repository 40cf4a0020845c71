-- The order of places, and lists of entries in it.
use Rattle.std.proofs.Common.{◌≡◌, ℕ, zero, suc, ◌+◌, ◌<◌, Bool, true, false, T, List, [], ◌∷◌, length, get_or, Ordering, sym, refl, ap, ◌∙◌, subst, arith}
use Rattle.std.specs.Prelude.{IsTrue, ◌&&◌}
use Rattle.std.specs.Cmp.{IsTotalOrder}
use Rattle.std.specs.Ordering.{nat_cmp, is_lt, ordering_reverse}
use Rattle.std.specs.declared.cmp.Ordering.TheVariants.{Less, Equal, Greater}
use Rattle.std.specs.FinMap.{IsAntisymmetric, is_sorted}
use Rattle.std.specs.FinMap.Entries.{below_all}
use Rattle.std.specs.List.{insert, remove}
use Rattle.std.specs.List.Sorted.{IsSortedBy}
use Rattle.std.proofs.lemmas.Cmp.{on_total, then_total, nat_cmp_total}
use Rattle.std.proofs.lemmas.Map.Lookups.{exact_pairs, exact_unsigned}
use Rattle.dir_table.specs.declared.calls.DirRow.{DirRow}
use Rattle.dir_table.specs.Names.{Place, place_cmp, entry_of, entries_of}
use Rattle.dir_table.proofs.ListEdits.{map-insert, map-remove}

pub places_total : IsTotalOrder place_cmp
places_total = then_total (on_total (λ p. p.0) nat_cmp_total) (on_total (λ p. p.1) nat_cmp_total)

-- only equal places tie
pub places_exact : IsAntisymmetric place_cmp
places_exact a b tie = exact_pairs nat_cmp nat_cmp exact_unsigned exact_unsigned a b tie

pub T_from_true : (b : Bool) → IsTrue b → T b
T_from_true b e = subst T (sym e) tt

pub true_from_T : (b : Bool) → T b → IsTrue b
true_from_T true h = refl
true_from_T false h = absurd h

pub both_true : (a b : Bool) → IsTrue (a && b) → IsTrue a × IsTrue b
both_true true true h = (refl, refl)
both_true true false h = (refl, h)
both_true false b h = (h, absurd (subst T (sym h) tt))

pub and_true : (a b : Bool) → IsTrue a → IsTrue b → IsTrue (a && b)
and_true true b h k = k
and_true false b h k = h

pub less_of : (r : Ordering) → IsTrue (is_lt r) → r ≡ Less
less_of Less h = refl
less_of Equal h = absurd (subst T (sym h) tt)
less_of Greater h = absurd (subst T (sym h) tt)

-- seen from the other side
pub reversed : (a b : Place) (r : Ordering) → place_cmp a b ≡ r → place_cmp b a ≡ ordering_reverse r
reversed a b r is = places_total.antisymm b a ∙ ap ordering_reverse is

-- the place of the row
abbrev pub place_of_row : DirRow → Place
place_of_row row = (row.dir, row.name)

-- an entry of a list that a place is below is above it
pub below_at : (place : Place) (rows : List DirRow) → IsTrue (below_all place_cmp place (entries_of rows)) → (i : ℕ) (d : DirRow) → i < length rows
    → place_cmp place (place_of_row (get_or rows i d)) ≡ Less
below_at place [] below i d in_range = absurd (omega arith)
below_at place (row ∷ rows) below zero d in_range = less_of _ (both_true _ _ below).0
below_at place (row ∷ rows) below (suc i) d in_range = below_at place rows (both_true _ _ below).1 i d (omega arith)

pub below_from : (place : Place) (rows : List DirRow) → ((i : ℕ) (d : DirRow) → i < length rows → place_cmp place (place_of_row (get_or rows i d)) ≡ Less)
    → IsTrue (below_all place_cmp place (entries_of rows))
below_from place [] above = refl
below_from place (row ∷ rows) above = and_true _ _ (ap is_lt (above 0 row (omega arith))) (below_from place rows (λ i d in_range. above (suc i) d (omega arith)))

-- rows in order rise, as a search asks
pub rise : (rows : List DirRow) → IsTrue (is_sorted place_cmp (entries_of rows)) → IsSortedBy (λ a b. is_lt (place_cmp (place_of_row a) (place_of_row b))) rows
rise [] sorted k d from in_range = absurd (omega arith)
rise (row ∷ []) sorted k d from in_range = absurd (omega arith)
rise (row ∷ next ∷ rows) sorted zero d from in_range =
    ap is_lt (reversed (place_of_row row) (place_of_row next) Less (below_at (place_of_row row) (next ∷ rows) (both_true _ _ sorted).0 0 d (omega arith)))
rise (row ∷ next ∷ rows) sorted (suc k) d from in_range =
    subst (λ n. is_lt (place_cmp (place_of_row (get_or (row ∷ next ∷ rows) n d)) (place_of_row (get_or (next ∷ rows) k d))) ≡ false) {x = suc (k + 1)} (omega arith)
    (rise (next ∷ rows) (both_true _ _ sorted).1 k d (omega arith) (omega arith))

-- the entries after an edit of the rows
pub entries-insert : (rows : List DirRow) (i : ℕ) (row : DirRow) → entries_of (insert rows i row) ≡ insert (entries_of rows) i (entry_of row)
entries-insert = map-insert entry_of

pub entries-remove : (rows : List DirRow) (i : ℕ) → entries_of (remove rows i) ≡ remove (entries_of rows) i
entries-remove = map-remove entry_of
