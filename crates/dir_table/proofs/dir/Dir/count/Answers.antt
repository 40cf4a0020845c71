use Rattle.std.proofs.Common.{eqb, length, ap, sym, ◌∙◌}
use Rattle.std.specs.List.{filter}
use Rattle.dir_table.specs.declared.calls.DirReply.TheVariants.{Number}
use Rattle.dir_table.specs.Blocks.{joined}
use Rattle.dir_table.specs.Answers.{count_in}
use Rattle.dir_table.proofs.NamesKept.{entries_names}
use Rattle.dir_table.proofs.dir.Dir.count.Goals as goal

pub returns : goal.returns
returns c =
    ap Number (c.count_of.ensures
    ∙ ap (λ es. length (filter (λ e. eqb e.0.0 c.args.dir) es)) (sym (entries_names (joined c.self.inside.rows.blocks) c.self.invariant.in_order))
    ∙ ap (λ d. count_in d.names c.args.dir) c.self.view_is)
