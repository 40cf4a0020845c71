use Rattle.std.proofs.Common.{◌≡◌, ◌≤◌, drop, map}
use Rattle.trace_text.proofs.Counts.{count_on}
use Rattle.trace_text.specs.Report.{kind_of}
use Rattle.std.specs.Prelude.{◌==◌}
use Rattle.trace_text.proofs.totals.count_of.Given as goal

abbrev pub invariant-loop-entry : goal.invariant-loop-entry
invariant-loop-entry l = record {
  rest : count_on (λ r. kind_of r == l.kind) l.count (map (λ e. e.reply) (drop l.entry-index l.history)) ≡ count_on (λ r. kind_of r == l.kind) 0 (map (λ e. e.reply) l.history);
  few : l.count ≤ l.entry-index;
}
