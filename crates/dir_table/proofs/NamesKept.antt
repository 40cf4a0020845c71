-- What the rows' edits do to the names.
use Rattle.std.proofs.Common.{◌≡◌, ℕ, Bool, true, false, cond, T, List, [], Option, None, not, sym, refl, ap, ◌∙◌, subst}
use Rattle.std.specs.Ordering.{is_eq, eq_by_cmp}
use Rattle.std.specs.Cmp.{eq_by_cmp_equiv, alike_right}
use Rattle.std.specs.FinMap.{empty, get-empty, find, put, is_sorted, entries, get, insert, remove, entries-from_sorted, entries-insert, get-from_sorted, get-remove, same_entries_map, same_map}
use Rattle.std.specs.FinMap.Entries.{where_key, is_sorted-put, is_sorted-where_key, find-where_key}
use Rattle.dir_table.specs.declared.calls.DirRow.{DirRow}
use Rattle.dir_table.specs.Names.{Place, place_cmp, is_other, entries_of}
use Rattle.dir_table.specs.Rows.{AreInOrder, names_of}
use Rattle.dir_table.proofs.Order.{places_total, places_exact, T_from_true, true_from_T}

pub entries_names : (rows : List DirRow) → AreInOrder rows → entries (names_of rows) ≡ entries_of rows
entries_names rows sorted = entries-from_sorted place_cmp (entries_of rows) (T_from_true _ sorted)

pub get_names : (rows : List DirRow) (place : Place) → AreInOrder rows → get (names_of rows) place ≡ find place_cmp place (entries_of rows)
get_names rows place sorted = get-from_sorted place_cmp (entries_of rows) place (T_from_true _ sorted)

module _ (old new : List DirRow) (sorted : AreInOrder old) where
  module _ (place : Place) (number : ℕ) (edit : entries_of new ≡ put place_cmp place number (entries_of old)) where
    pub put_in_order : AreInOrder new
    put_in_order = true_from_T _ (subst (λ es. T (is_sorted place_cmp es)) (sym edit) (is_sorted-put place_cmp places_total place number (entries_of old) (T_from_true _ sorted)))

    pub put_names : names_of new ≡ insert (names_of old) place number
    put_names = same_entries_map _ _ (entries_names new put_in_order ∙ edit ∙ ap (put place_cmp place number) (sym (entries_names old sorted))
        ∙ sym (entries-insert places_total (names_of old) place number))

  module _ (place : Place) (edit : entries_of new ≡ where_key place_cmp (is_other place) (entries_of old)) where
    pub removal_in_order : AreInOrder new
    removal_in_order = true_from_T _ (subst (λ es. T (is_sorted place_cmp es)) (sym edit) (is_sorted-where_key place_cmp (is_other place) (entries_of old) (T_from_true _ sorted)))

    -- the removed place is absent, and the others stay
    found_after : (q : Place) → get (names_of new) q ≡ cond (is_other place q) (get (names_of old) q) None
    found_after q = get_names new q removal_in_order ∙ ap (find place_cmp q) edit
        ∙ find-where_key place_cmp (is_other place) q (λ x tie. ap (λ r. not (is_eq r)) (sym (alike_right places_total q x place tie))) (entries_of old)
        ∙ ap (λ o. cond (is_other place q) o None) (sym (get_names old q sorted))

    turned : (b : Bool) (o : Option ℕ) → cond (not b) o None ≡ cond b None o
    turned true o = refl
    turned false o = refl

    pub removal_names : names_of new ≡ remove (names_of old) place
    removal_names = same_map places_total places_exact _ _ (λ q.
        found_after q ∙ turned (eq_by_cmp place_cmp place q) (get (names_of old) q)
        ∙ ap (λ b. cond b None (get (names_of old) q)) ((eq_by_cmp_equiv places_total).symm place q)
        ∙ sym (get-remove places_total (names_of old) place q))

-- no rows are no names
pub no_names : names_of [] ≡ empty
no_names = same_map places_total places_exact _ _ (λ q. get_names [] q refl ∙ sym (get-empty place_cmp q))
