use Rattle.std.proofs.Common.{◌≡◌, drop}
use Rattle.std.specs.Prelude.{fold}
use Rattle.sim_setup.specs.Clock.{later}
use Rattle.sim_chart.specs.Bars.{BarModel, largest_of}
use Rattle.sim_chart.proofs.bars.largest_of.Given as goal

abbrev pub invariant-loop-bar : goal.invariant-loop-bar
invariant-loop-bar l = fold (λ most (bar : BarModel). later most bar.amount) l.most (drop l.bar-index l.bars) ≡ largest_of l.bars
