use Rattle.std.proofs.Common.{◌≡◌, take}
use Rattle.std.specs.Vec.{vec_capacity}
use Rattle.dir_table.proofs.block_list.copied_blocks.Given as goal

abbrev pub invariant-loop-block : goal.invariant-loop-block
invariant-loop-block l = record {
  rows : l.blocks.items ≡ take l.block-index l.from;
  room : vec_capacity l.blocks ≡ l.room;
}
