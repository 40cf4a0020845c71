use Rattle.std.proofs.Common.{◌≡◌, ◌≤◌, ◌++◌, ◌*◌, map, drop}
use Rattle.sim_report.specs.Spreads.{lines_spread}
use Rattle.sim_report.proofs.spread_parts.push_lines.Given as goal

abbrev pub invariant-loop-line : goal.invariant-loop-line
invariant-loop-line l = record {
  text : l.out.items ++ lines_spread (map (λ r. r.items) l.runs) l.at (drop l.line-index l.lines)
      ≡ l.fn.out.items ++ lines_spread (map (λ r. r.items) l.runs) 0 l.lines;
  at : l.at ≤ 8 * l.line-index;
}
