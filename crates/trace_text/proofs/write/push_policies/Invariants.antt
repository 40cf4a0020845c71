use Rattle.std.proofs.Common.{◌≡◌, ◌++◌, drop, map}
use Rattle.std.specs.List.{flat_map}
use Rattle.doc_text.specs.Text.{ended}
use Rattle.trace_text.specs.Spelling.{policy_line}
use Rattle.trace_text.specs.Traces.{policy_of}
use Rattle.trace_text.proofs.write.push_policies.Given as goal

abbrev pub invariant-loop-policy : goal.invariant-loop-policy
invariant-loop-policy l = l.out.items ++ flat_map ended (map policy_line (map policy_of (drop l.policy-index l.policies))) ≡ l.initial.out.items ++ flat_map ended (map policy_line (map policy_of l.policies))
