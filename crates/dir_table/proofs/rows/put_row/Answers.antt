use Rattle.std.proofs.Common.{◌≡◌, set, get_or, ap, sym, ◌∙◌, subst}
use Rattle.std.proofs.lemmas.List.{map-set}
use Rattle.dir_table.specs.Names.{entry_of, entries_of}
use Rattle.dir_table.specs.Rows.{IsAt, IsGapFor}
use Rattle.dir_table.specs.Blocks.{joined, rows_before, block_at}
use Rattle.dir_table.proofs.Order.{entries-insert}
use Rattle.dir_table.proofs.Places.{at_place, put_at, put_gap}
use Rattle.dir_table.proofs.rows.put_row.Goals as goal

pub returns-in-Ok-clause-put : goal.returns-in-Ok-clause-put
returns-in-Ok-clause-put c =
    let row = c.args.row in
    let spot = c.in-Ok.spot in
    let rows = joined c.args.rows.now.blocks in
    let at = rows_before c.args.rows.now.blocks spot in
    let here = subst (λ bs. IsAt (entries_of (joined bs)) (row.dir, row.name) (rows_before bs spot)) c.blocks-2.ensures.blocks c.in-Ok.ensures.found in
    ap entries_of c.replace.ensures.rows
    ∙ map-set entry_of rows at row
    ∙ ap (λ p. set (entries_of rows) at (p, row.ino)) (sym (at_place (entries_of rows) (row.dir, row.name) at (entry_of row) here))
    ∙ sym (put_at (entries_of rows) (row.dir, row.name) row.ino at (entry_of row) here)

pub returns-in-Err-clause-put : goal.returns-in-Err-clause-put
returns-in-Err-clause-put c =
    let row = c.args.row in
    let spot = c.in-Err.spot in
    let rows = joined c.args.rows.now.blocks in
    let gap = subst (λ bs. IsGapFor (entries_of (joined bs)) (row.dir, row.name) (rows_before bs spot)) c.blocks-2.ensures.blocks c.in-Err.ensures.absent in
    ap entries_of c.insert.ensures.rows ∙ entries-insert rows (rows_before c.args.rows.now.blocks spot) row
    ∙ sym (put_gap (entries_of rows) (row.dir, row.name) row.ino _ gap)

pub replace-requires-clause-same : goal.replace-requires-clause-same
replace-requires-clause-same c none =
    subst (λ bs. (get_or (block_at bs c.in-Ok.spot.block) c.in-Ok.spot.at none).dir ≡ c.args.row.dir) c.blocks-2.ensures.blocks (c.in-Ok.ensures.own none)
