use Rattle.std.proofs.Common.{slice_index_or, subst}
use Rattle.call_pool.specs.Rounds.{HasAsked}
use Rattle.call_pool.proofs.threads.take_in_threads.Goals as goal

pub returns-clause-asked : goal.returns-clause-asked
returns-clause-asked g c k d lt =
    let at = (c.for_each_mut.ensures k d lt).1 in
    subst (λ new. HasAsked g.P.SharedCalls.asks (slice_index_or c.args.takers.now k d) new) at.left
    (subst (λ old. HasAsked g.P.SharedCalls.asks old at.after_call.now) at.argument_is at.call.4)
