use Rattle.std.proofs.Common.{◌≡◌, drop, map}
use Rattle.trace_text.specs.Lines.{is_declared}
use Rattle.trace_text.specs.Traces.{policy_of}
use Rattle.trace_text.proofs.policies.is_declared.Given as goal

abbrev pub invariant-loop-policy : goal.invariant-loop-policy
invariant-loop-policy l = is_declared (map policy_of (drop l.policy-index l.policies)) l.name ≡ is_declared (map policy_of l.policies) l.name
