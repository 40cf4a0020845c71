use Rattle.std.proofs.Common.{◌≡◌, ◌++◌, drop, map}
use Rattle.std.specs.List.{flat_map}
use Rattle.doc_text.specs.Text.{ended}
use Rattle.trace_text.specs.Report.{done_of, entry_line}
use Rattle.trace_text.proofs.reports.push_history.Given as goal

abbrev pub invariant-loop-place : goal.invariant-loop-place
invariant-loop-place l = l.out.items ++ flat_map ended (map (entry_line (map (λ n. n.items) l.names)) (map done_of (drop l.place l.history))) ≡ l.initial.out.items ++ flat_map ended (map (entry_line (map (λ n. n.items) l.names)) (map done_of (l.history)))
