-- The rows of a directory come behind those of the lesser ones.
use Rattle.std.proofs.Common.{◌≡◌, ℕ, ◌+◌, ◌≤◌, Bool, eqb, ltb, List, ◌++◌, length, sym, ap, ◌∙◌, arith}
use Rattle.std.specs.Prelude.{filter, IsTrue}
use Rattle.std.specs.FinMap.{entries, entries_sorted, is_sorted}
use Rattle.std.proofs.lemmas.List.{length-append, length-map}
use Rattle.std.proofs.lemmas.List.Sums.{length-filter, count_by-le-length}
use Rattle.dir_table.specs.declared.calls.DirRow.{DirRow}
use Rattle.dir_table.specs.Names.{Place, Names, place_cmp, entry_of, entries_of}
use Rattle.dir_table.proofs.Order.{true_from_T}
use Rattle.shard_rows.specs.Replay.{opening, left_by}
use Rattle.shard_rows.specs.Shares.{names_in}
use Rattle.shard_rows.specs.Values.{JournalValue, ShardValue, caught_up, names_after, rows_below}
use Rattle.shard_rows.proofs.Filtered.{entries_kept}
use Rattle.shard_rows.proofs.Rows.{up_to_next}
use Rattle.shard_rows.proofs.Sizes.{few_names}

module _ (j : JournalValue) (shard s : ShardValue) (rows : List DirRow) (is : s ≡ caught_up j.entries shard) (in_room : shard.room ≡ j.room)
    (lesser : entries_of rows ≡ rows_below j shard.dir) where
  own : entries s.names ≡ filter (λ e. eqb e.0.0 shard.dir) (entries (names_after j))
  own = ap (λ (x : ShardValue). entries x.names) is ∙ ap (λ r. entries (names_in (left_by (opening r) j.entries).names shard.dir)) in_room
      ∙ entries_kept (names_after j) (λ place. eqb place.0 shard.dir)

  pub with_own : entries_of rows ++ entries s.names ≡ rows_below j (shard.dir + 1)
  with_own = ap (λ es. es ++ entries s.names) lesser ∙ ap (λ es. rows_below j shard.dir ++ es) own
      ∙ sym (up_to_next shard.dir (entries (names_after j)) (true_from_T _ (entries_sorted (names_after j))))

  pub own_fits : (capacity : ℕ) → length j.entries ≤ j.limit → j.limit ≤ capacity → length rows + length (entries s.names) ≤ capacity
  own_fits capacity within reserved =
      let all = ap length with_own in
      let both = length-append (entries_of rows) (entries s.names) in
      let same = length-map rows entry_of in
      let part = length-filter (λ e. ltb e.0.0 (shard.dir + 1)) (entries (names_after j)) in
      let most = count_by-le-length (λ e. ltb e.0.0 (shard.dir + 1)) (entries (names_after j)) in
      let few = few_names j.room j.entries in
      omega (arith, all, both, same, part, most, few)
