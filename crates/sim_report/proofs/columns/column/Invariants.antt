use Rattle.std.proofs.Common.{◌≡◌, map, take}
use Rattle.sim_report.specs.Spreads.{column}
use Rattle.sim_report.proofs.columns.column.Given as goal

abbrev pub invariant-loop-run : goal.invariant-loop-run
invariant-loop-run l = l.figures.items ≡ column (map (λ r. r.items) (take l.run-index l.runs)) l.i
