use Rattle.std.proofs.Common.{ap, sym, ◌∙◌}
use Rattle.std.specs.FinMap.{entries}
use Rattle.dir_table.specs.Names.{entries_of}
use Rattle.dir_table.specs.Blocks.{joined}
use Rattle.dir_table.proofs.NamesKept.{entries_names}
use Rattle.dir_table.proofs.dir.Dir.rows.Goals as goal

pub returns-clause-all : goal.returns-clause-all
returns-clause-all c =
    ap entries_of (c.of.ensures ∙ ap joined c.blocks-2.ensures.blocks) ∙ sym (entries_names (joined c.self.inside.rows.blocks) c.self.invariant.in_order) ∙ ap (λ d. entries d.names) c.self.view_is
