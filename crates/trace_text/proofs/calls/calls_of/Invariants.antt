use Rattle.std.proofs.Common.{◌≡◌, ◌≤◌, ◌+◌, map, length}
use Rattle.doc_text.specs.Text.{pieces}
use Rattle.doc_text.specs.Faults.{lines_from}
use Rattle.trace_text.specs.CallLists.{list_said, IsListOf}
use Rattle.trace_text.specs.Grammar.{call_says, calls_in}
use Rattle.trace_text.specs.Traces.{policy_of}
use Rattle.trace_text.proofs.calls.calls_of.Given as goal

abbrev pub invariant-loop-rest : goal.invariant-loop-rest
invariant-loop-rest l = record {
  read : lines_from (call_says l.workers (map policy_of l.policies)) (list_said l.policies l.list) l.line (pieces l.rest) ≡ calls_in l.workers (map policy_of l.policies) l.first (pieces l.bytes);
  list : IsListOf l.workers l.policies l.list;
  line : l.line ≡ l.first + 1 + length l.list.calls.items;
  few : length l.list.calls.items ≤ 65536;
}

abbrev pub decreases-loop-rest : goal.decreases-loop-rest
decreases-loop-rest l = length l.rest
