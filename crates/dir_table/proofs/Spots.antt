-- Spots of names among the blocks.
use Rattle.std.proofs.Common.{◌≡◌, ℕ, suc, ◌+◌, ◌-◌, [], List, get_or, Option, Some, None, Ordering, sym, refl, ap, ◌∙◌, arith}
use Rattle.std.specs.List.{find, slice_get}
use Rattle.std.specs.Option.{option_map}
use Rattle.std.specs.declared.cmp.Ordering.TheVariants.{Less, Equal, Greater}
use Rattle.std.specs.Ordering.{ordering_reverse}
use Rattle.std.specs.FinMap as map_of
use Rattle.std.proofs.Math.ListN.{get_or-map}
use Rattle.std.proofs.lemmas.Option.{slice_get-get_or, slice_get_within, get_or_from_slice_get}
use Rattle.std.proofs.lemmas.List.{get_or_default}
use Rattle.std.proofs.lemmas.List.Concat.{get_or-flat_map}
use Rattle.dir_table.specs.declared.calls.DirRow.{DirRow}
use Rattle.dir_table.specs.declared.block.Spot.{Spot}
use Rattle.dir_table.specs.Names.{Place, place_cmp, entry_of, entries_of}
use Rattle.dir_table.specs.Rows.{AreInOrder, IsAt, IsGapFor, BeginAfter}
use Rattle.dir_table.specs.Blocks.{Blocks, joined, block_at, rows_before, IsRow, IsCut}
use Rattle.dir_table.proofs.Order.{places_total, places_exact, place_of_row}
use Rattle.dir_table.proofs.Places.{at_from, find_at}
use Rattle.dir_table.proofs.Limits.{gap_at_cut}
use Rattle.dir_table.proofs.Next.{is_next, next_there, next_absent}
use Rattle.dir_table.proofs.Reading.{before_in_range}

equal_by : (r : Ordering) → r ≡ ordering_reverse r → r ≡ Equal
equal_by Less same = cc
equal_by Equal same = refl
equal_by Greater same = cc

tie : (row : DirRow) (place : Place) → row.dir ≡ place.0 → row.name ≡ place.1 → place_cmp (place_of_row row) place ≡ Equal
tie row place dir name = ap (λ p. place_cmp p place) {x = place_of_row row} {y = place} (λ i. (dir i, name i)) ∙ equal_by (place_cmp place place) (places_total.antisymm place place)

module _ (blocks : Blocks) (spot : Spot) (there : IsRow blocks spot) where
  -- the row of the spot among all rows
  pub row_there : (d : DirRow) → get_or (joined blocks) (rows_before blocks spot) d ≡ get_or (block_at blocks spot.block) spot.at d
  row_there d = get_or-flat_map (λ rows. rows) blocks spot.block spot.at [] d there.block there.row

  row_by : (d e : DirRow) → get_or (joined blocks) (rows_before blocks spot) e ≡ get_or (block_at blocks spot.block) spot.at d
  row_by d e = row_there e ∙ get_or_default (block_at blocks spot.block) spot.at e d there.row

  pub spot_at : (place : Place) (d : DirRow) → AreInOrder (joined blocks) → (get_or (block_at blocks spot.block) spot.at d).dir ≡ place.0 → (get_or (block_at blocks spot.block) spot.at d).name ≡ place.1
      → IsAt (entries_of (joined blocks)) place (rows_before blocks spot)
  spot_at place d sorted dir name =
      at_from (joined blocks) place (rows_before blocks spot) sorted (before_in_range blocks spot.block spot.at [] there.block there.row)
      (λ e. tie (get_or (joined blocks) (rows_before blocks spot) e) place (ap (λ r. r.dir) (row_by d e) ∙ dir) (ap (λ r. r.name) (row_by d e) ∙ name))

  pub spot_number : (place : Place) (d : DirRow) → IsAt (entries_of (joined blocks)) place (rows_before blocks spot)
      → map_of.find place_cmp place (entries_of (joined blocks)) ≡ Some (get_or (block_at blocks spot.block) spot.at d).ino
  spot_number place d here =
      find_at (entries_of (joined blocks)) place (rows_before blocks spot) (entry_of d) here
      ∙ ap (λ e. Some e.1) (get_or-map entry_of (joined blocks) (rows_before blocks spot) d)
      ∙ ap (λ row. Some row.ino) (row_there d)

-- the row before the end is of another name
pub gap_by_row : (blocks : Blocks) (last : Spot) (place : Place) (i : ℕ) (d : DirRow) → IsRow blocks last → AreInOrder (joined blocks) → IsCut (joined blocks) (place.0, place.1 + 1) i
    → suc (rows_before blocks last) ≡ i → ((get_or (block_at blocks last.block) last.at d).dir ≡ place.0 → (get_or (block_at blocks last.block) last.at d).name ≡ place.1 → ⊥)
    → IsGapFor (entries_of (joined blocks)) place i
gap_by_row blocks last place i d there sorted cut next other = gap_at_cut (joined blocks) place i sorted cut (λ e some equal.
    let same : get_or (joined blocks) (i - 1) e ≡ get_or (block_at blocks last.block) last.at d =
    ap (λ n. get_or (joined blocks) n e) {x = i - 1} {y = rows_before blocks last} (omega arith) ∙ row_there blocks last there e ∙ get_or_default (block_at blocks last.block) last.at e d there.row in
    let is = places_exact _ _ equal in
    other (ap (λ r. r.dir) (sym same) ∙ ap (λ p. p.0) is) (ap (λ r. r.name) (sym same) ∙ ap (λ p. p.1) is))

-- the row where the names begin is the next one of the directory, or there is none
pub next_is_row : (rows : List DirRow) (dir : ℕ) (bound : Option ℕ) (i : ℕ) (row : DirRow) → BeginAfter rows dir bound i → slice_get rows i ≡ Some row → row.dir ≡ dir
    → option_map (λ e. e.0.1) (find (is_next dir bound) (entries_of rows)) ≡ Some row.name
next_is_row rows dir bound i row begin read same =
    let is : get_or rows i row ≡ row = get_or_from_slice_get rows i row row read in
    ap (option_map (λ e. e.0.1)) (next_there rows dir bound i row begin (slice_get_within rows i row read) (ap (λ r. r.dir) is ∙ same)) ∙ ap (λ r. Some r.name) is

pub no_next_row : (rows : List DirRow) (dir : ℕ) (bound : Option ℕ) (i : ℕ) → AreInOrder rows → BeginAfter rows dir bound i
    → ((row : DirRow) → slice_get rows i ≡ Some row → row.dir ≡ dir → ⊥) → option_map (λ e. e.0.1) (find (is_next dir bound) (entries_of rows)) ≡ None
no_next_row rows dir bound i sorted begin other =
    ap (option_map (λ e. e.0.1)) (next_absent rows dir bound i sorted begin (λ d in_range same. other (get_or rows i d) (slice_get-get_or rows i d in_range) same))
