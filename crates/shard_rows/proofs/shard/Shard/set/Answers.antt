use Rattle.std.proofs.Common.{ap, ◌∙◌, sym, subst}
use Rattle.dir_table.specs.Rows.{names_of}
use Rattle.shard_rows.specs.Tables.{rows_of}
use Rattle.shard_rows.specs.Shares.{with_number}
use Rattle.shard_rows.specs.Values.{ShardValue}
use Rattle.shard_rows.proofs.Listed.{names_set}
use Rattle.shard_rows.proofs.shard.Shard.set.Goals as goal

pub returns-then-dir-self : goal.returns-then-dir-self
returns-then-dir-self c =
    let i = c.self.inside in
    ap {B = ShardValue} (λ r. record { dir = i.dir; names = names_of (rows_of i.dir c.set.new.self.numbers); known = i.known; room = r }) c.set.ensures.room
    ∙ ap {B = ShardValue} (λ m. record { dir = i.dir; names = m; known = i.known; room = i.table.room })
    (names_set i.dir i.table.numbers c.set.new.self.numbers c.args.name c.args.dir c.args.number c.if-dir-self.true c.set.ensures.set)
    ∙ ap {A = ShardValue} {B = ShardValue} (λ s. record s { names = with_number s.dir s.names c.args.dir c.args.name c.args.number }) c.self.view_is
