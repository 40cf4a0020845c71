use Rattle.std.proofs.Common.{Some, ap, sym, subst}
use Rattle.policy_versions.specs.Noting.{IsAnswerOf}
use Rattle.call_pool.specs.Rounds.{OnePolicyModel}
use Rattle.call_pool.proofs.LogsKept.{rounds_more}
use Rattle.call_pool.proofs.chooser.OnePolicy.note.Goals as goal

pub invariant_of-self : goal.invariant_of-self
invariant_of-self c =
    rounds_more c.self.inside.policy.now c.self.inside.log.now c.add.new.self c.args.told c.self.invariant
    (subst (λ p. IsAnswerOf (Some p) c.args.told) (sym (ap (λ (m : OnePolicyModel). m.policy) c.self.view_is)) c.requires) c.add.ensures
