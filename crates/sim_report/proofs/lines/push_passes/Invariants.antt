use Rattle.std.proofs.Common.{◌≡◌, ◌++◌, ◌+◌, drop, map, vec_len}
use Rattle.sim_report.specs.declared.figures.Line.TheVariants as line
use Rattle.sim_report.specs.Figures.{passes_lines}
use Rattle.sim_report.proofs.lines.push_passes.Given as goal

abbrev pub invariant-loop-value : goal.invariant-loop-value
invariant-loop-value l = record {
  lines : l.lines.items ++ map (λ value. line.Passes l.key value) (drop l.value-index l.value-items) ≡ l.fn.lines.items ++ passes_lines l.key l.attrs;
  few : vec_len l.lines ≡ vec_len l.fn.lines + l.value-index;
}
