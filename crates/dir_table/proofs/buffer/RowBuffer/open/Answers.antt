use Rattle.std.proofs.Common.{get_or, sym, ap, ◌∙◌, arith}
use Rattle.std.proofs.lemmas.List.{get_or-replicate}
use Rattle.std.proofs.lemmas.Grind.{common_steps}
use Rattle.dir_table.specs.Blocks.{joined}
use Rattle.dir_table.specs.Buffers.{rows_in}
use Rattle.dir_table.proofs.buffer.RowBuffer.open.Goals as goal

pub invariant_of-result : goal.invariant_of-result
invariant_of-result c = record {
  stored = grind (arith, common_steps, c.in_ok-blocks.ensures.blocks, c.in_ok-blocks.ensures.left, c.div_ceil.ensures);
  counted = λ dir d within. ap (λ counts. get_or counts dir d) c.none_counted.ensures ∙ get_or-replicate 256 dir 0 d within
      ∙ sym (ap (λ bs. rows_in dir (joined bs)) c.in_ok-blocks.ensures.blocks);
}
