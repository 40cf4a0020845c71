use Rattle.std.proofs.Common.{ap, sym, subst, ◌∙◌, []}
use Rattle.shard_rows.specs.Values.{IsUpTo}
use Rattle.shard_rows.proofs.UpTo.{up_to_nothing}
use Rattle.dir_table.specs.Rows.{names_of}
use Rattle.dir_table.proofs.NamesKept.{no_names}
use Rattle.shard_rows.specs.Tables.{rows_of}
use Rattle.shard_rows.proofs.shard.Shard.open.Goals as goal

pub returns-clause-shard : goal.returns-clause-shard
returns-clause-shard c =
    ap (λ t. record { dir = c.args.dir; names = names_of (rows_of c.args.dir t.numbers); known = 0; room = t.room }) c.in_ok-open.ensures
    ∙ ap (λ m. record { dir = c.args.dir; names = m; known = 0; room = c.args.room }) no_names

pub returns-clause-up_to : goal.returns-clause-up_to
returns-clause-up_to c entries = subst (IsUpTo entries) (sym (returns-clause-shard c)) (up_to_nothing c.args.dir c.args.room entries)
