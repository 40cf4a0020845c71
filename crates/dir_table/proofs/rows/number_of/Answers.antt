use Rattle.std.proofs.Common.{Some, get_or, sym, ap, ◌∙◌}
use Rattle.std.specs.FinMap.{find}
use Rattle.dir_table.specs.declared.calls.DirRow.{DirRow}
use Rattle.dir_table.specs.Names.{place_cmp, entries_of}
use Rattle.dir_table.specs.Blocks.{joined}
use Rattle.dir_table.proofs.Places.{find_gap}
use Rattle.dir_table.proofs.Spots.{spot_number}
use Rattle.dir_table.proofs.rows.number_of.Goals as goal

pub returns-in-Ok : goal.returns-in-Ok
returns-in-Ok c =
    let blocks = c.blocks-list.result.now.blocks in
    let spot = c.in-Ok.spot in
    let none : DirRow = record { dir = 0; name = 0; ino = 0 } in
    let here = c.rows_of.ensures in
    ap (λ rs. Some (get_or rs spot.at none).ino) here
    ∙ sym (spot_number blocks spot c.in-Ok.ensures.row (c.args.dir, c.args.name) none c.in-Ok.ensures.found)
    ∙ ap (λ bs. find place_cmp (c.args.dir, c.args.name) (entries_of (joined bs))) c.blocks-list.ensures.blocks

pub returns-in-Err : goal.returns-in-Err
returns-in-Err c =
    sym (find_gap (entries_of (joined c.blocks-list.result.now.blocks)) (c.args.dir, c.args.name) _ c.in-Err.ensures.absent)
    ∙ ap (λ bs. find place_cmp (c.args.dir, c.args.name) (entries_of (joined bs))) c.blocks-list.ensures.blocks
