use Rattle.std.proofs.Common.{arith, ap, length}
use Rattle.policy_versions.proofs.Steps.{open_holds}
use Rattle.policy_versions.proofs.registry.Registry.open.Goals as goal

pub of_words-requires : goal.of_words-requires
of_words-requires c = open_holds _ (let o = c.args.declared.ok.0 in let e = ap (λ v. length v.items) c.of.ensures in let h = c.requires.policies.0 in omega arith)
