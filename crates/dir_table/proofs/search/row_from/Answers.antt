use Rattle.std.proofs.Common.{◌≡◌, suc, ◌+◌, ◌<◌, [], Some, length, get_or, sym, ap, ◌∙◌, subst, arith}
use Rattle.std.specs.List.{slice_get}
use Rattle.std.proofs.lemmas.Option.{slice_get-get_or}
use Rattle.dir_table.specs.declared.calls.DirRow.{DirRow}
use Rattle.dir_table.specs.Blocks.{block_at}
use Rattle.dir_table.proofs.Reading.{read_here, read_next, read_end, later_filled}
use Rattle.dir_table.proofs.search.row_from.Goals as goal

pub returns-then-spot-rows : goal.returns-then-spot-rows
returns-then-spot-rows c =
    let blocks = c.args.list.now.blocks in
    let spot = c.args.spot in
    let none : DirRow = record { dir = 0; name = 0; ino = 0 } in
    let here = c.rows_of-rows.ensures in
    let within : spot.at < length (block_at blocks spot.block) = subst (λ rs. spot.at < length rs) here c.if-spot-rows.true in
    ap (λ rs. Some (get_or rs spot.at none)) here
    ∙ sym (slice_get-get_or (block_at blocks spot.block) spot.at none within)
    ∙ sym (read_here blocks spot.block spot.at [] c.requires.gap.block within)

pub returns-then-spot-len : goal.returns-then-spot-len
returns-then-spot-len c =
    let blocks = c.args.list.now.blocks in
    let spot = c.args.spot in
    let here = c.rows_of-rows.ensures in
    let count = ap length here in
    let end : spot.at ≡ length (block_at blocks spot.block) = omega (arith, count, c.requires.gap.within, c.if-spot-rows.false) in
    let next : suc spot.block < length blocks = omega (arith, c.if-spot-len.true) in
    let there : c.rows_of.result.now ≡ block_at blocks (suc spot.block) = c.rows_of.ensures ∙ ap (block_at blocks) {x = spot.block + 1} {y = suc spot.block} (omega arith) in
    c.copied.ensures ∙ c.first.ensures.value ∙ ap (λ rs. slice_get rs 0) there
    ∙ sym (read_next blocks spot.block spot.at [] next end (later_filled blocks spot.block c.requires.filled.filled next))

pub returns-else-spot-len : goal.returns-else-spot-len
returns-else-spot-len c =
    let blocks = c.args.list.now.blocks in
    let spot = c.args.spot in
    let here = c.rows_of-rows.ensures in
    let count = ap length here in
    let known = c.requires.gap.block in
    sym (read_end blocks spot.block spot.at [] (omega (arith, known, c.if-spot-len.false)) (omega (arith, count, c.requires.gap.within, c.if-spot-rows.false)))
