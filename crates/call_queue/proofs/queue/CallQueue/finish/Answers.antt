use Rattle.std.proofs.Common.{◌≤◌, sym, ap, ◌∙◌, subst}
use Rattle.crossbeam_queue.specs.Passes.{view}
use Rattle.call_queue.specs.Rule.{whole}
use Rattle.call_queue.specs.Queues.{TakerModel, IsEachTaken}
use Rattle.call_queue.proofs.Moves.{learns}
use Rattle.call_queue.proofs.Filled.{each_taken}
use Rattle.call_queue.proofs.queue.CallQueue.finish.Goals as goal

pub learn_as-requires-clause-rule : goal.learn_as-requires-clause-rule
learn_as-requires-clause-rule g c = learns _ _ (subst (λ (t : TakerModel _). whole ≤ t.parts) (sym c.all.view_is) c.requires.whole)

pub returns : goal.returns
returns g c = let l = c.learn_as.ensures.rule in
    subst (λ (t : TakerModel _). IsEachTaken t.calls t.taken) c.all.view_is
    (each_taken (view c.all.inside.pass) l.0 c.all.invariant.2 l.1 (sym c.all.invariant.3 ∙ (ap (λ (t : TakerModel _). t.ended) c.all.view_is ∙ c.requires.ended)))
