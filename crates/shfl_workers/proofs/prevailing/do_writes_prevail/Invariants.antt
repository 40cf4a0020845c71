use Rattle.std.proofs.Common.{◌≡◌, ◌≤◌, take, length}
use Rattle.trace_text.specs.Histories.{made_in}
use Rattle.shfl_workers.specs.Prevailing.{writes_in}
use Rattle.shfl_workers.proofs.prevailing.do_writes_prevail.Given as goal

abbrev pub invariant-loop-call : goal.invariant-loop-call
invariant-loop-call l = record {
  calls : l.calls ≡ length (made_in (take l.call-index l.trace.calls.items));
  writes : l.writes ≡ length (writes_in (take l.call-index l.trace.calls.items));
  few : (l.calls ≤ l.call-index) × (l.writes ≤ l.call-index);
}
