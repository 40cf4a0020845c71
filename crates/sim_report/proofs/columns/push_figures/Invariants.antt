use Rattle.std.proofs.Common.{◌≡◌, ◌++◌, drop}
use Rattle.std.specs.List.{flat_map}
use Rattle.sim_report.specs.Figures.{line_figures}
use Rattle.sim_report.proofs.columns.push_figures.Given as goal

abbrev pub invariant-loop-line : goal.invariant-loop-line
invariant-loop-line l =
    l.out.items ++ flat_map (line_figures l.ended l.attrs) (drop l.line-index l.lines) ≡ l.fn.out.items ++ flat_map (line_figures l.ended l.attrs) l.lines
