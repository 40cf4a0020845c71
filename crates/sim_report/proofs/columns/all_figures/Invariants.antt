use Rattle.std.proofs.Common.{◌≡◌, map}
use Rattle.sim_report.specs.Figures.{figures_below}
use Rattle.sim_report.proofs.columns.all_figures.Given as goal

abbrev pub invariant-loop-run : goal.invariant-loop-run
invariant-loop-run l = map (λ r. r.items) l.runs.items ≡ figures_below l.setup l.rule l.run
