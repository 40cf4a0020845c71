use Rattle.std.proofs.Common.{◌≡◌, ◌≤◌, drop}
use Rattle.trace_text.proofs.Counts.{count_on}
use Rattle.trace_text.specs.Traces.{is_attachment}
use Rattle.trace_text.proofs.totals.attachments.Given as goal

abbrev pub invariant-loop-call : goal.invariant-loop-call
invariant-loop-call l = record {
  rest : count_on (λ c. is_attachment c.act) l.count (drop l.call-index l.trace.calls.items) ≡ count_on (λ c. is_attachment c.act) 0 l.trace.calls.items;
  few : l.count ≤ l.call-index;
}
