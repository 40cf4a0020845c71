use Rattle.std.proofs.Common.{◌≡◌, ◌++◌, ◌+◌, map, drop}
use Rattle.sim_report.specs.Spreads.{figures_spread}
use Rattle.sim_report.proofs.spread_parts.push_figures.Given as goal

abbrev pub invariant-loop-figure : goal.invariant-loop-figure
invariant-loop-figure l = record {
  text : l.out.items ++ figures_spread l.line (map (λ r. r.items) l.runs) l.at (drop l.figure-index l.figures)
      ≡ l.fn.out.items ++ figures_spread l.line (map (λ r. r.items) l.runs) l.first l.figures;
  at : l.at ≡ l.first + l.figure-index;
}
