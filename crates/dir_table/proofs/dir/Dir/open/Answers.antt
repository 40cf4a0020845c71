use Rattle.std.proofs.Common.{ap, ◌∙◌}
use Rattle.std.specs.FinMap.{from_sorted}
use Rattle.dir_table.specs.Names.{entries_of}
use Rattle.dir_table.proofs.NamesKept.{no_names}
use Rattle.dir_table.proofs.dir.Dir.open.Goals as goal

pub returns : goal.returns
returns c =
    ap (λ rs. record { names = from_sorted (entries_of rs); next_number = 1; room = c.args.room; spare = c.args.calls }) c.in_ok-open.ensures.rows
    ∙ ap (λ m. record { names = m; next_number = 1; room = c.args.room; spare = c.args.calls }) no_names
