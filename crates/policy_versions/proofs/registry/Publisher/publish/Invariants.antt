use Rattle.std.proofs.Common.{◌≡◌}
use Rattle.policy_versions.proofs.registry.Publisher.publish.Given as goal

abbrev pub invariant-loop : goal.invariant-loop
invariant-loop g l = (l.self ≡ l.initial.self) × (l.instance ≡ l.initial.instance)
