use Rattle.std.proofs.Common.{length, refl}
use Rattle.std.proofs.lemmas.Option.{slice_get_read}
use Rattle.syncord_rounds.proofs.queue.run_queue.Goals as goal

pub returns-in-Ok-run_pool-clause-rounds : goal.returns-in-Ok-run_pool-clause-rounds
returns-in-Ok-run_pool-clause-rounds g c =
    let policies = c.args.trace.now.policies.items in
    record {
      declared = c.index.result.now;
      first = slice_get_read policies (length policies) 0 c.index.result.now refl c.requires.within.policies.0 c.index.ensures;
      policy = c.in_ok-policy.policy;
      loaded = c.in_ok-policy.ensures;
      rounds = rw c.as_slice-attrs.ensures.value at c.in-Ok-run_pool.ensures.rounds;
    }
