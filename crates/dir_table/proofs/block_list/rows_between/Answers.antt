use Rattle.std.proofs.Common.{[], length, ap, arith}
use Rattle.dir_table.proofs.Joined.{length-joins_more}
use Rattle.dir_table.proofs.Reading.{before_within}
use Rattle.dir_table.specs.Blocks.{block_at}
use Rattle.dir_table.proofs.block_list.rows_between.Goals as goal

pub overflow_add-count : goal.overflow_add-count
overflow_add-count c =
    let blocks = c.args.list.now.blocks in
    let k = c.loop-block.block in
    omega (arith, c.loop-block.invariant, ap length c.rows_of.ensures, before_within blocks k (length (block_at blocks k)) [] (omega (arith, c.requires.within, c.loop-block-test.true)) (omega arith), c.requires.few)

pub loop-block-preserved : goal.loop-block-preserved
loop-block-preserved c =
    let blocks = c.args.list.now.blocks in
    let k = c.loop-block.block in
    omega (arith, c.loop-block.invariant, ap length c.rows_of.ensures, length-joins_more blocks k [] (omega (arith, c.requires.within, c.loop-block-test.true)))
