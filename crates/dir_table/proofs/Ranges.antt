-- Edits keep the places in range.
use Rattle.std.proofs.Common.{◌≡◌, ℕ, true, false, cond, List, [], ◌∷◌, sym, subst}
use Rattle.std.specs.List.{All, AllByRecursion}
use Rattle.std.specs.declared.cmp.Ordering.TheVariants.{Less, Equal, Greater}
use Rattle.std.specs.FinMap.{put}
use Rattle.std.specs.FinMap.Entries.{where_key, by_order}
use Rattle.std.proofs.lemmas.List.Elements.{All-from_recursion, recursion_from_All}
use Rattle.dir_table.specs.declared.calls.DirRow.{DirRow}
use Rattle.dir_table.specs.Names.{Place, place_cmp, is_other, entries_of}
use Rattle.dir_table.specs.Directory.{IsInRange}

module _ (room : ℕ) where
  abbrev pub IsRowInRange : DirRow → Type 0
  IsRowInRange row = IsInRange room row.dir row.name

  abbrev IsEntryInRange : Place × ℕ → Type 0
  IsEntryInRange e = IsInRange room e.0.0 e.0.1

  to_entries : (rows : List DirRow) → AllByRecursion IsRowInRange rows → AllByRecursion IsEntryInRange (entries_of rows)
  to_entries [] ranged = ranged
  to_entries (row ∷ rows) ranged = (ranged.0, to_entries rows ranged.1)

  to_rows : (rows : List DirRow) → AllByRecursion IsEntryInRange (entries_of rows) → AllByRecursion IsRowInRange rows
  to_rows [] ranged = ranged
  to_rows (row ∷ rows) ranged = (ranged.0, to_rows rows ranged.1)

  after_put : (place : Place) (v : ℕ) (es : List (Place × ℕ)) → IsInRange room place.0 place.1 → AllByRecursion IsEntryInRange es
      → AllByRecursion IsEntryInRange (put place_cmp place v es)
  after_put place v [] here ranged = (here, ranged)
  after_put place v (e ∷ es) here ranged =
      elim (place_cmp place e.0) as (λ r. AllByRecursion IsEntryInRange (by_order r ((place, v) ∷ e ∷ es) ((e.0, v) ∷ es) (e ∷ put place_cmp place v es))) [
        | Less ↦ (here, ranged)
        | Equal ↦ ranged
        | Greater ↦ (ranged.0, after_put place v es here ranged.1)
      ]

  after_removal : (place : Place) (es : List (Place × ℕ)) → AllByRecursion IsEntryInRange es → AllByRecursion IsEntryInRange (where_key place_cmp (is_other place) es)
  after_removal place [] ranged = ranged
  after_removal place (e ∷ es) ranged =
      elim (is_other place e.0) as (λ b. AllByRecursion IsEntryInRange (cond b (e ∷ where_key place_cmp (is_other place) es) (where_key place_cmp (is_other place) es))) [
        | true ↦ (ranged.0, after_removal place es ranged.1)
        | false ↦ after_removal place es ranged.1
      ]

  pub put_in_range : (old new : List DirRow) (place : Place) (v : ℕ) → All IsRowInRange old → IsInRange room place.0 place.1
      → entries_of new ≡ put place_cmp place v (entries_of old) → All IsRowInRange new
  put_in_range old new place v ranged here edit =
      All-from_recursion IsRowInRange new (to_rows new (subst (AllByRecursion IsEntryInRange) (sym edit)
      (after_put place v (entries_of old) here (to_entries old (recursion_from_All IsRowInRange old ranged)))))

  pub removal_in_range : (old new : List DirRow) (place : Place) → All IsRowInRange old
      → entries_of new ≡ where_key place_cmp (is_other place) (entries_of old) → All IsRowInRange new
  removal_in_range old new place ranged edit =
      All-from_recursion IsRowInRange new (to_rows new (subst (AllByRecursion IsEntryInRange) (sym edit)
      (after_removal place (entries_of old) (to_entries old (recursion_from_All IsRowInRange old ranged)))))
