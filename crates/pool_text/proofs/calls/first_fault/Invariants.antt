use Rattle.std.proofs.Common.{◌≡◌, ◌+◌, ◌≤◌, drop, map}
use Rattle.trace_text.specs.Traces.{document_of, is_attachment}
use Rattle.pool_text.specs.PoolDocuments.{fault_from, first_call_line}
use Rattle.pool_text.proofs.calls.first_fault.Given as goal

abbrev pub invariant-loop-place : goal.invariant-loop-place
invariant-loop-place l = record {
  none_yet : fault_from l.place (first_call_line (document_of l.trace) + l.place) (drop l.place (map (λ c. is_attachment c.act) l.trace.calls.items))
      ≡ fault_from 0 (first_call_line (document_of l.trace)) (map (λ c. is_attachment c.act) l.trace.calls.items);
  few : l.place ≤ 4096;
}
