use Rattle.std.proofs.Common.{◌≡◌, ◌+◌, length, take}
use Rattle.dir_table.specs.Blocks.{joined}
use Rattle.dir_table.proofs.block_list.rows_between.Given as goal

abbrev pub invariant-loop-block : goal.invariant-loop-block
invariant-loop-block l = length (joined (take l.start l.list.blocks)) + l.count ≡ length (joined (take l.block l.list.blocks))
