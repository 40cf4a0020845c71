-- Where a place is among entries in order, and what an edit there leaves.
use Rattle.std.proofs.Common.{◌≡◌, ℕ, zero, suc, ◌<◌, ◌≤◌, cond, List, [], ◌∷◌, set, length, get_or, Some, None, Result, Ok, Err, IfOk, IfErr, not, sym, refl, ap, ◌∙◌, subst, arith}
use Rattle.std.specs.Prelude.{IsTrue}
use Rattle.std.specs.declared.cmp.Ordering.TheVariants.{Less, Equal, Greater}
use Rattle.std.specs.Ordering.{is_eq}
use Rattle.std.specs.List.{insert, remove}
use Rattle.std.specs.List.Sorted.{IsSearchInRange, IsBinarySearchResult}
use Rattle.std.specs.FinMap.{find, put, is_sorted}
use Rattle.std.specs.FinMap.Entries.{where_key, below_all, by_order}
use Rattle.std.proofs.lemmas.List.Sorted.{searchable_from_sorted}
use Rattle.dir_table.specs.declared.calls.DirRow.{DirRow}
use Rattle.dir_table.specs.Names.{Place, place_cmp, is_other, entries_of}
use Rattle.dir_table.specs.Rows.{AreInOrder, IsAt, IsGapFor}
use Rattle.dir_table.proofs.Order.{places_total, places_exact, both_true, reversed, place_of_row, below_at, below_from, rise, less_of}

pub at_in_range : (es : List (Place × ℕ)) (place : Place) (i : ℕ) → IsAt es place i → i < length es
at_in_range [] place i here = absurd here
at_in_range (e ∷ es) place zero here = omega arith
at_in_range (e ∷ es) place (suc i) here = let below = at_in_range es place i here.1 in omega arith

pub gap_in_range : (es : List (Place × ℕ)) (place : Place) (i : ℕ) → IsGapFor es place i → i ≤ length es
gap_in_range es place zero gap = omega arith
gap_in_range [] place (suc i) gap = absurd gap
gap_in_range (e ∷ es) place (suc i) gap = let below = gap_in_range es place i gap.1 in omega arith

pub at_place : (es : List (Place × ℕ)) (place : Place) (i : ℕ) (d : Place × ℕ) → IsAt es place i → (get_or es i d).0 ≡ place
at_place [] place i d here = absurd here
at_place (e ∷ es) place zero d here = sym (places_exact place e.0 here)
at_place (e ∷ es) place (suc i) d here = at_place es place i d here.1

pub find_at : (es : List (Place × ℕ)) (place : Place) (i : ℕ) (d : Place × ℕ) → IsAt es place i → find place_cmp place es ≡ Some (get_or es i d).1
find_at [] place i d here = absurd here
find_at (e ∷ es) place zero d here = ap (λ r. cond (is_eq r) (Some e.1) (find place_cmp place es)) here
find_at (e ∷ es) place (suc i) d here = ap (λ r. cond (is_eq r) (Some e.1) (find place_cmp place es)) here.0 ∙ find_at es place i d here.1

pub find_below : (es : List (Place × ℕ)) (place : Place) → IsTrue (below_all place_cmp place es) → find place_cmp place es ≡ None
find_below [] place below = refl
find_below (e ∷ es) place below =
    ap (λ r. cond (is_eq r) (Some e.1) (find place_cmp place es)) (less_of _ (both_true _ _ below).0) ∙ find_below es place (both_true _ _ below).1

pub find_gap : (es : List (Place × ℕ)) (place : Place) (i : ℕ) → IsGapFor es place i → find place_cmp place es ≡ None
find_gap es place zero gap = find_below es place gap
find_gap [] place (suc i) gap = absurd gap
find_gap (e ∷ es) place (suc i) gap = ap (λ r. cond (is_eq r) (Some e.1) (find place_cmp place es)) gap.0 ∙ find_gap es place i gap.1

-- writing a number at its place
pub put_at : (es : List (Place × ℕ)) (place : Place) (v i : ℕ) (d : Place × ℕ) → IsAt es place i → put place_cmp place v es ≡ set es i ((get_or es i d).0, v)
put_at [] place v i d here = absurd here
put_at (e ∷ es) place v zero d here = ap (λ r. by_order r ((place, v) ∷ e ∷ es) ((e.0, v) ∷ es) (e ∷ put place_cmp place v es)) here
put_at (e ∷ es) place v (suc i) d here =
    ap (λ r. by_order r ((place, v) ∷ e ∷ es) ((e.0, v) ∷ es) (e ∷ put place_cmp place v es)) here.0 ∙ ap (λ l. e ∷ l) (put_at es place v i d here.1)

pub put_below : (es : List (Place × ℕ)) (place : Place) (v : ℕ) → IsTrue (below_all place_cmp place es) → put place_cmp place v es ≡ (place, v) ∷ es
put_below [] place v below = refl
put_below (e ∷ es) place v below = ap (λ r. by_order r ((place, v) ∷ e ∷ es) ((e.0, v) ∷ es) (e ∷ put place_cmp place v es)) (less_of _ (both_true _ _ below).0)

-- a new entry in its gap
pub put_gap : (es : List (Place × ℕ)) (place : Place) (v i : ℕ) → IsGapFor es place i → put place_cmp place v es ≡ insert es i (place, v)
put_gap es place v zero gap = put_below es place v gap
put_gap [] place v (suc i) gap = absurd gap
put_gap (e ∷ es) place v (suc i) gap =
    ap (λ r. by_order r ((place, v) ∷ e ∷ es) ((e.0, v) ∷ es) (e ∷ put place_cmp place v es)) gap.0 ∙ ap (λ l. e ∷ l) (put_gap es place v i gap.1)

-- entries of other places stay where one place is removed
pub kept_below : (es : List (Place × ℕ)) (place : Place) → IsTrue (below_all place_cmp place es) → where_key place_cmp (is_other place) es ≡ es
kept_below [] place below = refl
kept_below (e ∷ es) place below =
    let rest = where_key place_cmp (is_other place) es in
    ap (λ r. cond (not (is_eq r)) (e ∷ rest) rest) (less_of _ (both_true _ _ below).0) ∙ ap (λ l. e ∷ l) (kept_below es place (both_true _ _ below).1)

pub kept_gap : (es : List (Place × ℕ)) (place : Place) (i : ℕ) → IsGapFor es place i → where_key place_cmp (is_other place) es ≡ es
kept_gap es place zero gap = kept_below es place gap
kept_gap [] place (suc i) gap = absurd gap
kept_gap (e ∷ es) place (suc i) gap =
    let rest = where_key place_cmp (is_other place) es in
    ap (λ r. cond (not (is_eq r)) (e ∷ rest) rest) gap.0 ∙ ap (λ l. e ∷ l) (kept_gap es place i gap.1)

pub removed_at : (es : List (Place × ℕ)) (place : Place) (i : ℕ) → IsTrue (is_sorted place_cmp es) → IsAt es place i
    → where_key place_cmp (is_other place) es ≡ remove es i
removed_at [] place i sorted here = absurd here
removed_at (e ∷ es) place zero sorted here =
    let rest = where_key place_cmp (is_other place) es in
    let below = subst (λ p. IsTrue (below_all place_cmp p es)) (sym (places_exact place e.0 here)) (both_true _ _ sorted).0 in
    ap (λ r. cond (not (is_eq r)) (e ∷ rest) rest) here ∙ kept_below es place below
removed_at (e ∷ es) place (suc i) sorted here =
    let rest = where_key place_cmp (is_other place) es in
    ap (λ r. cond (not (is_eq r)) (e ∷ rest) rest) here.0 ∙ ap (λ l. e ∷ l) (removed_at es place i (both_true _ _ sorted).1 here.1)

-- the place of a row that is found: those before it are of lesser places
pub at_from : (rows : List DirRow) (place : Place) (i : ℕ) → AreInOrder rows → i < length rows → ((d : DirRow) → place_cmp (place_of_row (get_or rows i d)) place ≡ Equal)
    → IsAt (entries_of rows) place i
at_from [] place i sorted in_range same = absurd (omega arith)
at_from (row ∷ rows) place zero sorted in_range same = reversed (place_of_row row) place Equal (same row)
at_from (row ∷ rows) place (suc i) sorted in_range same =
    let is = places_exact _ _ (same row) in
    let below : place_cmp (place_of_row row) place ≡ Less =
    subst (λ p. place_cmp (place_of_row row) p ≡ Less) is (below_at (place_of_row row) rows (both_true _ _ sorted).0 i row (omega arith)) in
    (reversed (place_of_row row) place Less below, at_from rows place i (both_true _ _ sorted).1 (omega arith) same)

pub gap_from : (rows : List DirRow) (place : Place) (i : ℕ) → i ≤ length rows
    → ((j : ℕ) (d : DirRow) → j < i → place_cmp (place_of_row (get_or rows j d)) place ≡ Less)
    → ((j : ℕ) (d : DirRow) → i ≤ j → j < length rows → place_cmp (place_of_row (get_or rows j d)) place ≡ Greater)
    → IsGapFor (entries_of rows) place i
gap_from rows place zero in_range less greater =
    below_from place rows (λ j d below. reversed (place_of_row (get_or rows j d)) place Greater (greater j d (omega arith) below))
gap_from [] place (suc i) in_range less greater = absurd (omega arith)
gap_from (row ∷ rows) place (suc i) in_range less greater = (
  reversed (place_of_row row) place Less (less 0 row (omega arith)),
  gap_from rows place i (omega arith) (λ j d below. less (suc j) d (omega arith)) (λ j d from below. greater (suc j) d (omega arith) (omega arith)),
)

-- what a binary search answers
pub searched : (rows : List DirRow) (place : Place) (r : Result ℕ ℕ) → AreInOrder rows → IsSearchInRange r (length rows)
    → IsBinarySearchResult (λ row. place_cmp (place_of_row row) place) rows r
    → IfOk r (IsAt (entries_of rows) place) × IfErr r (IsGapFor (entries_of rows) place)
searched rows place (Ok i) sorted in_range same = (at_from rows place i sorted in_range same, tt)
searched rows place (Err i) sorted in_range parted =
    let parts = parted (searchable_from_sorted places_total place_of_row rows place (rise rows sorted)) in
    (tt, gap_from rows place i in_range (λ j d below. parts.0 j d (omega arith) below) (λ j d from below. parts.1 j d from below))
