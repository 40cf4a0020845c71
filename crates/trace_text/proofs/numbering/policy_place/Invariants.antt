use Rattle.std.proofs.Common.{◌≡◌, true, drop, map}
use Rattle.trace_text.specs.Lines.{is_declared}
use Rattle.trace_text.specs.Traces.{policy_of}
use Rattle.trace_text.proofs.numbering.policy_place.Given as goal

abbrev pub invariant-loop-k : goal.invariant-loop-k
invariant-loop-k l = is_declared (map policy_of (drop l.k l.policies)) l.name ≡ true
