use Rattle.std.proofs.Common.{◌≡◌, ℕ, ◌++◌, List, false}
use Rattle.policy_versions.proofs.registry.VersionPass.enter.Given as goal

abbrev pub invariant-loop : goal.invariant-loop
invariant-loop g l = (l.self.registry ≡ l.initial.self.registry) × (l.self.user ≡ l.initial.self.user) × (l.self.is_open ≡ false) × ((more : List ℕ) × (l.self.seen ≡ more ++ l.initial.self.seen)) × (l.self.log ≡ l.initial.self.log)
