use Rattle.std.proofs.Common.{◌≡◌, ◌+◌, ◌≤◌, ◌++◌, length, map, ap, sym, ◌∙◌, subst, arith}
use Rattle.std.specs.FinMap.{entries}
use Rattle.std.proofs.lemmas.List.{length-map, map-append}
use Rattle.dir_table.specs.Names.{entry_of, entries_of}
use Rattle.dir_table.proofs.NamesKept.{entries_names}
use Rattle.shard_rows.specs.Values.{ShardValue}
use Rattle.shard_rows.specs.Tables.{rows_of}
use Rattle.shard_rows.proofs.Listed.{rows_in_order}
use Rattle.shard_rows.proofs.shard.Shard.push_rows.Goals as goal

pub push_rows-requires : goal.push_rows-requires
push_rows-requires c =
    let rows = rows_of c.self.inside.dir c.self.inside.table.numbers in
    let same = ap length (entries_names rows (rows_in_order c.self.inside.dir 0 c.self.inside.table.numbers)) in
    let mapped = length-map rows entry_of in
    let seen = ap (λ (s : ShardValue). length (entries s.names)) c.self.view_is in
    omega (arith, same, mapped, seen, c.requires)

pub returns-clause-rows : goal.returns-clause-rows
returns-clause-rows c =
    let rows = rows_of c.self.inside.dir c.self.inside.table.numbers in
    ap entries_of c.push_rows.ensures.rows ∙ map-append entry_of c.args.rows.now.items rows
    ∙ ap (λ es. entries_of c.args.rows.now.items ++ es) (sym (entries_names rows (rows_in_order c.self.inside.dir 0 c.self.inside.table.numbers)))
    ∙ ap (λ (s : ShardValue). entries_of c.args.rows.now.items ++ entries s.names) c.self.view_is
