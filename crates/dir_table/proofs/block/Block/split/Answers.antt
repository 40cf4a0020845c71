use Rattle.std.proofs.Common.{drop, length, ap, ◌∙◌, arith}
use Rattle.std.proofs.lemmas.Slice.{between_to_end}
use Rattle.dir_table.specs.Blocks.{half_room}
use Rattle.dir_table.proofs.block.Block.split.Goals as goal

pub returns-clause-upper : goal.returns-clause-upper
returns-clause-upper c =
    let rows = c.as_slice.result.now in
    c.rows_again-upper.ensures ∙ between_to_end rows half_room (length rows) (omega arith)
    ∙ ap (drop half_room) (c.as_slice.ensures.value ∙ c.self.view_is)
