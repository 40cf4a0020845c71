use Rattle.std.proofs.Common.{◌∙◌}
use Rattle.dir_table.specs.Blocks.{joined}
use Rattle.dir_table.proofs.Counted.{named_rows}
use Rattle.dir_table.proofs.rows.count_of.Goals as goal

pub returns : goal.returns
returns c = c.count.ensures ∙ named_rows c.args.dir (joined c.args.rows.now.blocks)
