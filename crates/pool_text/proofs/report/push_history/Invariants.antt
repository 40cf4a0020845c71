use Rattle.std.proofs.Common.{◌≡◌, ◌++◌, drop, map}
use Rattle.std.specs.List.{flat_map}
use Rattle.doc_text.specs.Text.{ended}
use Rattle.pool_text.specs.PoolReports.{entry_line}
use Rattle.pool_text.proofs.report.push_history.Given as goal

abbrev pub invariant-loop-entry : goal.invariant-loop-entry
invariant-loop-entry l = l.out.items ++ flat_map ended (map (entry_line (map (λ n. n.items) l.names)) (drop l.entry-index l.history))
    ≡ l.initial.out.items ++ flat_map ended (map (entry_line (map (λ n. n.items) l.names)) l.history)
