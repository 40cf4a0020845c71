use Rattle.std.proofs.Common.{◌≡◌, ◌++◌, List, All, vec_len}
use Rattle.dir_shards.specs.ShardPasses.{ShardPassModel}
use Rattle.dir_shards.specs.Closings.{GaveBack}
use Rattle.dir_shards.proofs.journal_closing.give_passes.Given as goal

abbrev pub invariant-loop-pass : goal.invariant-loop-pass
invariant-loop-pass l = record {
  table : l.closing.table ≡ l.fn.table;
  left : All (λ (p : ShardPassModel). p.journal ≡ l.fn.table.id) l.passes.items;
  given : (given : List ShardPassModel) × (l.fn.passes.items ≡ l.passes.items ++ given) × All (GaveBack l.closing.lists l.closing.numbers) given;
}

abbrev pub decreases-loop-pass : goal.decreases-loop-pass
decreases-loop-pass l = vec_len l.passes
