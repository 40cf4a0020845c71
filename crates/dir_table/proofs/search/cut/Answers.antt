use Rattle.std.proofs.Common.{◌<◌, [], drop, length, sym, refl, subst, rules, arith}
use Rattle.std.specs.List.Sorted.{IsPartitionedBy}
use Rattle.std.proofs.lemmas.Fn.{always_returns_same}
use Rattle.std.proofs.lemmas.List.{length-drop}
use Rattle.dir_table.specs.Blocks.{joined, is_below}
use Rattle.dir_table.proofs.Limits.{below_first}
use Rattle.dir_table.proofs.Cuts.{cut_found, cut_start, tail_parted, parted_each}
use Rattle.dir_table.proofs.search.cut.Goals as goal

pub begun_below-block-requires-clause-in_order : goal.begun_below-block-requires-clause-in_order
begun_below-block-requires-clause-in_order c =
    let blocks = c.args.list.now.blocks in
    let test = is_below (c.args.dir, c.args.name) in
    let tail = drop 1 blocks in
    let filled = c.requires.filled.filled in
    tail_parted test blocks tail c.requires.filled.some refl filled (below_first (joined blocks) (c.args.dir, c.args.name) c.requires.in_order)

pub returns-clause-cut : goal.returns-clause-cut
returns-clause-cut c =
    let blocks = c.args.list.now.blocks in
    let test = is_below (c.args.dir, c.args.name) in
    let k = c.begun_below-block.result in
    let tail = drop 1 blocks in
    let filled = c.requires.filled.filled in
    let parted = below_first (joined blocks) (c.args.dir, c.args.name) c.requires.in_order in
    let firsts = c.begun_below-block.ensures in
    let rows = c.partition_point-at.ensures in
    let known : k < length blocks = omega (arith, firsts.within, length-drop 1 blocks, c.requires.filled.some) in
    let here = c.rows_of-rows.ensures in
    let blocks_cut = firsts.point in
    let row_parted = subst (IsPartitionedBy test) (sym here) (parted_each test blocks k [] parted known) in
    let rows_cut = rows.partitioned test (always_returns_same _ _ _ (λ a r g called. search rules)) row_parted in
    let change = cut_found test blocks tail c.rows_of-rows.result.now k c.partition_point-at.result c.requires.filled.some refl filled parted firsts.within blocks_cut here rows.bound rows_cut in
    record { within = change.0; before = change.1; behind = change.2 }

pub returns-clause-start : goal.returns-clause-start
returns-clause-start c none =
    let blocks = c.args.list.now.blocks in
    let test = is_below (c.args.dir, c.args.name) in
    let k = c.begun_below-block.result in
    let tail = drop 1 blocks in
    let filled = c.requires.filled.filled in
    let parted = below_first (joined blocks) (c.args.dir, c.args.name) c.requires.in_order in
    let firsts = c.begun_below-block.ensures in
    let known : k < length blocks = omega (arith, firsts.within, length-drop 1 blocks, c.requires.filled.some) in
    let here = c.rows_of-rows.ensures in
    let blocks_cut = firsts.point in
    let row_parted = subst (IsPartitionedBy test) (sym here) (parted_each test blocks k [] parted known) in
    let rows_cut = c.partition_point-at.ensures.partitioned test (always_returns_same _ _ _ (λ a r g called. search rules)) row_parted in
    cut_start test blocks tail c.rows_of-rows.result.now k c.partition_point-at.result c.requires.filled.some refl firsts.within blocks_cut.0 here rows_cut.1 none
