-- What a row put in at a spot, or taken away there, does to its block and to all rows.
use Rattle.std.proofs.Common.{◌≡◌, ◌+◌, List, [], set, length, get_or, sym, ◌∙◌}
use Rattle.std.specs.List.{insert, remove}
use Rattle.std.proofs.lemmas.List.Concat.{get_or-flat_map}
use Rattle.std.proofs.lemmas.List.Edits.{length-insert, length-remove}
use Rattle.dir_table.specs.declared.calls.DirRow.{DirRow}
use Rattle.dir_table.specs.declared.block.Spot.{Spot}
use Rattle.dir_table.specs.Blocks.{Blocks, joined, rows_before, block_at, IsGap, IsRow}
use Rattle.dir_table.proofs.Joined.{joins-insert, joins-remove, joins-replaced}

module _ (blocks : Blocks) (spot : Spot) (row : DirRow) where
  abbrev here : List DirRow
  here = block_at blocks spot.block

  pub one_more : IsGap blocks spot → length (insert here spot.at row) ≡ length here + 1
  one_more gap = length-insert here spot.at row gap.within

  pub put_joined : IsGap blocks spot → joined (set blocks spot.block (insert here spot.at row)) ≡ insert (joined blocks) (rows_before blocks spot) row
  put_joined gap = joins-insert blocks spot.block spot.at row [] gap.block gap.within

  pub one_fewer : IsRow blocks spot → length (remove here spot.at) + 1 ≡ length here
  one_fewer there = length-remove here spot.at there.row

  pub taken_row : IsRow blocks spot → row ≡ get_or here spot.at row → row ≡ get_or (joined blocks) (rows_before blocks spot) row
  taken_row there is = is ∙ sym (get_or-flat_map (λ rs. rs) blocks spot.block spot.at [] row there.block there.row)

  pub taken_joined : IsRow blocks spot → joined (set blocks spot.block (remove here spot.at)) ≡ remove (joined blocks) (rows_before blocks spot)
  taken_joined there = joins-remove blocks spot.block spot.at [] there.block there.row

  pub replaced_joined : IsRow blocks spot → joined (set blocks spot.block (set here spot.at row)) ≡ set (joined blocks) (rows_before blocks spot) row
  replaced_joined there = joins-replaced blocks spot.block spot.at row [] there.block there.row
