use Rattle.std.proofs.Common.{slice_index_or, subst}
use Rattle.shfl_workers.specs.Activities.{Works}
use Rattle.shfl_workers.proofs.activity.run_all.Goals as goal

pub returns-clause-works : goal.returns-clause-works
returns-clause-works g c k d lt =
    let at = (c.for_each_mut.ensures k d lt).1 in let D = g.D.SharedDir in
    subst (λ new. Works D.worker D.asks c.args.calls.now (slice_index_or c.args.activities.now k d) new) at.left
    (subst (λ old. Works D.worker D.asks c.args.calls.now old at.after_call.now) at.argument_is at.call.1)
