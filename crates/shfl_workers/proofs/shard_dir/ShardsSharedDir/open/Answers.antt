use Rattle.std.proofs.Common.{length, slice_index, slice_index_or, refl, ap, ◌∙◌, arith}
use Rattle.dir_shards.specs.ShardPasses.{fresh, no_attr}
use Rattle.shfl_workers.proofs.Numbered.{each_place}
use Rattle.shfl_workers.proofs.shard_dir.ShardsSharedDir.open.Goals as goal

pub returns-clause-passes : goal.returns-clause-passes
returns-clause-passes c =
    let sh = c.in_ok-shares.ensures in let passes = c.in-Ok.passes in
    let counts = c.as_slice-counts.ensures.value in
    let n = c.in-Ok.ensures.count in let ok = passes.ok.0 in let many = ap length counts ∙ sh.as_many in
    each_place _ (λ k. fresh c.in-Ok.locks k (slice_index c.as_slice-counts.result.now k) (slice_index_or c.as_slice-attrs.result.now k no_attr)) passes.items
    (λ k lt. c.in-Ok.ensures.passes k (omega (arith, lt, ok, n)))
    (λ k lt. record {
      of_dir = record { locks = refl; journal = refl; room = refl };
      number_is = refl;
      none_made = refl;
      left_is = ap (λ l. slice_index l k) counts ∙ sh.each k (omega (arith, lt, ok, n, many));
    })
