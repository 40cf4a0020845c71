use Rattle.std.proofs.Common.{◌≡◌, ◌≤◌, ◌+◌, ◌++◌, All, map, reverse, vec_len, vec_capacity}
use Rattle.dir_shards.specs.KeptShards.{KeptShardModel}
use Rattle.dir_shards.specs.Closings.{shard_of}
use Rattle.dir_shards.proofs.journal_closing.give_kept.Given as goal

abbrev pub invariant-loop-next : goal.invariant-loop-next
invariant-loop-next l = record {
  left : All (λ (k : KeptShardModel). k.table ≡ l.fn.closing.table.id) l.kept.items;
  table : l.closing.table ≡ l.fn.closing.table;
  numbers : l.closing.numbers ≡ l.fn.closing.numbers;
  lists : map (λ (k : KeptShardModel). k.list) l.fn.kept.items ++ l.fn.closing.lists ≡ map (λ (k : KeptShardModel). k.list) l.kept.items ++ l.closing.lists;
  shards : map shard_of (reverse l.fn.kept.items) ≡ l.shards.items ++ map shard_of (reverse l.kept.items);
  reserved : vec_len l.kept + vec_len l.shards ≤ vec_capacity l.shards;
}

abbrev pub decreases-loop-next : goal.decreases-loop-next
decreases-loop-next l = vec_len l.kept
