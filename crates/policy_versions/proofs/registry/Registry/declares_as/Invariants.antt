use Rattle.std.proofs.Common.{◌≡◌, ◌<◌, ℕ, get_or}
use Rattle.shfl_policy.specs.Policies.{PolicyModel}
use Rattle.policy_versions.proofs.registry.Registry.declares_as.Given as goal

abbrev pub invariant-loop-place : goal.invariant-loop-place
invariant-loop-place l = (k : ℕ) (d : PolicyModel) → k < l.place → get_or l.self.declared k d ≡ get_or l.other.declared k d
