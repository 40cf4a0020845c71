use Rattle.std.proofs.Common.{Some, get_or, sym, ap, ◌∙◌, subst}
use Rattle.std.specs.FinMap.{find}
use Rattle.dir_table.specs.declared.calls.DirRow.{DirRow}
use Rattle.dir_table.specs.Names.{place_cmp, entries_of}
use Rattle.dir_table.specs.Rows.{IsGapFor}
use Rattle.dir_table.specs.Blocks.{joined, rows_before}
use Rattle.dir_table.proofs.Order.{entries-insert}
use Rattle.dir_table.proofs.Places.{find_gap, put_gap}
use Rattle.dir_table.proofs.Spots.{spot_number}
use Rattle.dir_table.proofs.rows.add_row.Goals as goal

pub returns-in-Ok-clause-number : goal.returns-in-Ok-clause-number
returns-in-Ok-clause-number c =
    let blocks = c.blocks-list.result.now.blocks in
    let spot = c.in-Ok.spot in
    let row = c.args.row in
    let none : DirRow = record { dir = 0; name = 0; ino = 0 } in
    let here = c.rows_of.ensures in
    ap (λ rs. Some (get_or rs spot.at none).ino) here
    ∙ sym (spot_number blocks spot c.in-Ok.ensures.row (row.dir, row.name) none c.in-Ok.ensures.found)
    ∙ ap (λ bs. find place_cmp (row.dir, row.name) (entries_of (joined bs))) c.blocks-list.ensures.blocks

pub returns-in-Err-clause-number : goal.returns-in-Err-clause-number
returns-in-Err-clause-number c =
    let row = c.args.row in
    sym (find_gap (entries_of (joined c.blocks-list.result.now.blocks)) (row.dir, row.name) _ c.in-Err.ensures.absent)
    ∙ ap (λ bs. find place_cmp (row.dir, row.name) (entries_of (joined bs))) c.blocks-list.ensures.blocks

pub returns-in-Err-clause-put : goal.returns-in-Err-clause-put
returns-in-Err-clause-put c =
    let row = c.args.row in
    let spot = c.in-Err.spot in
    let rows = joined c.args.rows.now.blocks in
    let gap = subst (λ bs. IsGapFor (entries_of (joined bs)) (row.dir, row.name) (rows_before bs spot)) c.blocks-list.ensures.blocks c.in-Err.ensures.absent in
    ap entries_of c.insert.ensures.rows ∙ entries-insert rows (rows_before c.args.rows.now.blocks spot) row
    ∙ sym (put_gap (entries_of rows) (row.dir, row.name) row.ino _ gap)
