use Rattle.std.proofs.Common.{◌≡◌, ◌++◌, drop}
use Rattle.std.specs.List.{flat_map}
use Rattle.sim_report.specs.Reports.{told_text}
use Rattle.sim_report.proofs.report.push_lines.Given as goal

abbrev pub invariant-loop-line : goal.invariant-loop-line
invariant-loop-line l =
    l.out.items ++ flat_map (told_text l.ended l.attrs) (drop l.line-index l.lines) ≡ l.fn.out.items ++ flat_map (told_text l.ended l.attrs) l.lines
