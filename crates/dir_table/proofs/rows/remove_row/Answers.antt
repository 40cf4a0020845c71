use Rattle.std.proofs.Common.{◌≡◌, [], Some, length, get_or, ap, sym, ◌∙◌, subst, arith}
use Rattle.std.specs.FinMap.{find}
use Rattle.std.proofs.Math.ListN.{get_or-map}
use Rattle.std.proofs.lemmas.List.Edits.{length-remove}
use Rattle.dir_table.specs.Names.{place_cmp, entry_of, entries_of}
use Rattle.dir_table.specs.Rows.{IsAt, IsGapFor}
use Rattle.dir_table.specs.Blocks.{joined, rows_before, IsRow}
use Rattle.dir_table.proofs.Order.{entries-remove}
use Rattle.dir_table.proofs.Places.{find_at, find_gap, removed_at, kept_gap}
use Rattle.dir_table.proofs.Reading.{before_in_range}
use Rattle.dir_table.proofs.rows.remove_row.Goals as goal

pub returns-in-Ok-clause-number : goal.returns-in-Ok-clause-number
returns-in-Ok-clause-number c =
    let rows = joined c.args.rows.now.blocks in
    let spot = c.in-Ok.spot in
    let at = rows_before c.args.rows.now.blocks spot in
    let row = c.remove.result in
    let here = subst (λ bs. IsAt (entries_of (joined bs)) (c.args.dir, c.args.name) (rows_before bs spot)) c.blocks-2.ensures.blocks c.in-Ok.ensures.found in
    let same : entry_of row ≡ get_or (entries_of rows) at (entry_of row) = ap entry_of c.remove.ensures.row ∙ sym (get_or-map entry_of rows at row) in
    ap (λ e. Some e.1) same ∙ sym (find_at (entries_of rows) (c.args.dir, c.args.name) at (entry_of row) here)

pub returns-in-Ok-clause-removed : goal.returns-in-Ok-clause-removed
returns-in-Ok-clause-removed c =
    let rows = joined c.args.rows.now.blocks in
    let spot = c.in-Ok.spot in
    let at = rows_before c.args.rows.now.blocks spot in
    let here = subst (λ bs. IsAt (entries_of (joined bs)) (c.args.dir, c.args.name) (rows_before bs spot)) c.blocks-2.ensures.blocks c.in-Ok.ensures.found in
    ap entries_of c.remove.ensures.rows ∙ entries-remove rows at
    ∙ sym (removed_at (entries_of rows) (c.args.dir, c.args.name) at c.requires here)

pub returns-in-Ok-clause-one_fewer : goal.returns-in-Ok-clause-one_fewer
returns-in-Ok-clause-one_fewer c =
    let blocks = c.args.rows.now.blocks in
    let spot = c.in-Ok.spot in
    let there = subst (λ bs. IsRow bs spot) c.blocks-2.ensures.blocks c.in-Ok.ensures.row in
    let fewer = length-remove (joined blocks) (rows_before blocks spot) (before_in_range blocks spot.block spot.at [] there.block there.row) in
    omega (arith, ap length c.remove.ensures.rows, fewer)

pub returns-in-Err-clause-number : goal.returns-in-Err-clause-number
returns-in-Err-clause-number c =
    sym (find_gap (entries_of (joined c.blocks-2.result.now.blocks)) (c.args.dir, c.args.name) _ c.in-Err.ensures.absent)
    ∙ ap (λ bs. find place_cmp (c.args.dir, c.args.name) (entries_of (joined bs))) c.blocks-2.ensures.blocks

pub returns-in-Err-clause-removed : goal.returns-in-Err-clause-removed
returns-in-Err-clause-removed c =
    let gap = subst (λ bs. IsGapFor (entries_of (joined bs)) (c.args.dir, c.args.name) (rows_before bs c.in-Err.spot)) c.blocks-2.ensures.blocks c.in-Err.ensures.absent in
    sym (kept_gap (entries_of (joined c.args.rows.now.blocks)) (c.args.dir, c.args.name) _ gap)
