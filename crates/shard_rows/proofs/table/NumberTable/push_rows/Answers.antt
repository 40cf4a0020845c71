use Rattle.std.proofs.Common.{◌≡◌, ◌<◌, ◌+◌, ◌++◌, length, drop, ap, sym, subst, arith}
use Rattle.shard_rows.specs.Tables.{rows_from, rows_of}
use Rattle.shard_rows.proofs.Rows.{room_left}
use Rattle.shard_rows.proofs.table.NumberTable.push_rows.Goals as goal

pub push_reserved-requires : goal.push_reserved-requires
push_reserved-requires c =
    let same : c.self.inside.numbers.items ≡ c.args.self.now.numbers = ap (λ t. t.numbers) c.self.view_is in
    let told = subst (λ ns. c.loop-place.rows.items ++ rows_from c.args.dir c.loop-place.place (drop c.loop-place.place ns) ≡ c.args.rows.now.items ++ rows_of c.args.dir ns) (sym same) c.loop-place.invariant.0 in
    let left = room_left c.loop-place.rows.items c.args.rows.now.items c.args.dir c.loop-place.place c.index-ino.result.now c.self.inside.numbers.items (omega arith) c.index-ino.ensures (omega arith) told in
    let count = ap (λ ns. length (rows_of c.args.dir ns)) same in
    omega (arith, left, count, c.requires, c.loop-place.invariant.1)
