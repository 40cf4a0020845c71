use Rattle.std.proofs.Common.{◌≡◌, ◌≤◌, ◌++◌, length, vec_capacity}
use Rattle.dir_table.specs.Names.{entries_of}
use Rattle.shard_rows.specs.Values.{rows_below}
use Rattle.dir_shards.proofs.closing.put_all.Given as goal

abbrev pub invariant-loop-shard : goal.invariant-loop-shard
invariant-loop-shard l = record {
  next : goal.iterator-loop-shard.can_next l.shard-iterator;
  finite : goal.iterator-loop-shard.is_finite l.shard-iterator;
  all : l.fn.shards.items ≡ l.yielded ++ l.shard-iterator.rest.items;
  rows : entries_of l.rows.items ≡ rows_below l.journal (length l.yielded);
  reserved : l.journal.limit ≤ vec_capacity l.rows;
}
