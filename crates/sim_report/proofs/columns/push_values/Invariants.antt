use Rattle.std.proofs.Common.{◌≡◌, ◌++◌, drop, map}
use Rattle.sim_report.specs.Figures.{value_of}
use Rattle.sim_report.proofs.columns.push_values.Given as goal

abbrev pub invariant-loop-figure : goal.invariant-loop-figure
invariant-loop-figure l = l.out.items ++ map (value_of l.told) (drop l.figure-index l.figures) ≡ l.fn.out.items ++ map (value_of l.told) l.figures
