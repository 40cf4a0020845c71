use Rattle.std.proofs.Common.{◌≡◌, ◌++◌, ◌+◌, ◌*◌, drop}
use Rattle.sim_chart.specs.Bars.{bars_text}
use Rattle.sim_chart.proofs.bars.push_bars.Given as goal

abbrev pub invariant-loop-bar : goal.invariant-loop-bar
invariant-loop-bar l = record {
  text : l.out.items ++ bars_text l.kind l.largest l.y (drop l.bar-index l.bars) ≡ l.fn.out.items ++ bars_text l.kind l.largest l.first l.bars;
  y : l.y ≡ l.first + 20 * l.bar-index;
}
