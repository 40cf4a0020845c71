use Rattle.std.proofs.Common.{◌≡◌, ◌≤◌, ◌+◌, List, [], Result, vec_len, length, ℕ}
use Rattle.doc_text.specs.declared.fault.Fault.{Fault}
use Rattle.doc_text.specs.Text.{pieces}
use Rattle.sim_text.specs.Setups.{CandidateModel}
use Rattle.sim_text.specs.Grammar.{ReadsPolicies}
use Rattle.sim_text.proofs.policies.policies_of.Given as goal

abbrev pub invariant-loop-rest : goal.invariant-loop-rest
invariant-loop-rest l = record {
  read : (read : Result (List CandidateModel × List (List ℕ)) Fault) → ReadsPolicies l.profile l.policies.items l.line (pieces l.rest) read → ReadsPolicies l.profile [] 10 (pieces l.bytes) read;
  line : l.line ≡ 10 + vec_len l.policies;
  few : vec_len l.policies ≤ 16;
}

abbrev pub decreases-loop-rest : goal.decreases-loop-rest
decreases-loop-rest l = length l.rest
