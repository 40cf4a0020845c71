use Rattle.std.proofs.Common.{◌≡◌, ◌++◌, map}
use Rattle.std.specs.List.{flat_map}
use Rattle.doc_text.specs.Text.{ended}
use Rattle.dir_table.specs.Names.{entry_of}
use Rattle.trace_text.specs.Report.{row_line}
use Rattle.trace_text.proofs.reports.push_rows.Given as goal

abbrev pub invariant-loop-row : goal.invariant-loop-row
invariant-loop-row l = l.out.items ++ flat_map ended (map (row_line (map (λ n. n.items) l.names)) (map entry_of l.row-iterator)) ≡ l.initial.out.items ++ flat_map ended (map (row_line (map (λ n. n.items) l.names)) (map entry_of l.initial.row-iterator))
