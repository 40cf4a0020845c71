use Rattle.std.proofs.Common.{◌≡◌, ◌≤◌, ◌+◌, List, [], map, Result, vec_len, length}
use Rattle.doc_text.specs.declared.fault.Fault.{Fault}
use Rattle.doc_text.specs.Text.{pieces}
use Rattle.trace_text.specs.Document.{PolicyLine}
use Rattle.trace_text.specs.Grammar.{ReadsPolicies}
use Rattle.trace_text.specs.Traces.{policy_of}
use Rattle.std.proofs.Common.{ℕ}
use Rattle.trace_text.proofs.policies.policies_of.Given as goal

abbrev pub invariant-loop-rest : goal.invariant-loop-rest
invariant-loop-rest l = record {
  read : (read : Result (List PolicyLine × List (List ℕ)) Fault) → ReadsPolicies l.profile (map policy_of l.policies.items) l.line (pieces l.rest) read → ReadsPolicies l.profile [] l.first (pieces l.bytes) read;
  line : l.line ≡ l.first + vec_len l.policies;
  few : vec_len l.policies ≤ 64;
}

abbrev pub decreases-loop-rest : goal.decreases-loop-rest
decreases-loop-rest l = length l.rest
