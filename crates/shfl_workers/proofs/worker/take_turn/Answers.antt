use Rattle.std.proofs.Common.{◌∷◌, subst, Some, IsSomeAnd}
use Rattle.shfl_workers.specs.Attaching.{Attached}
use Rattle.shfl_workers.proofs.Turns.{own_attach}
use Rattle.shfl_workers.proofs.worker.take_turn.Goals as goal

pub returns-in-Some-clause-progress : goal.returns-in-Some-clause-progress
returns-in-Some-clause-progress g c = λ done ahead p.
    own_attach _ _ c.args.registry.now _ done ahead c.args.call.now c.in-Attach.policy c.args.pass.now c.args.attaching.now (Some c.attach.new.self) c.in-Attach.is p
    (λ d l h. c.attach.ensures d l (subst (λ o. IsSomeAnd o (λ a. Attached c.args.registry.now d (c.in-Attach.policy ∷ l) a.publisher a.copies.items)) c.in-Some.is h))
