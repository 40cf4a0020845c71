use Rattle.std.proofs.Common.{◌≡◌}
use Rattle.shfl_table.specs.Waits.{AsksInRounds}
use Rattle.shfl_cell.specs.Cells.{number}
use Rattle.call_pool.specs.Pools.{IsPassOf}
use Rattle.call_pool.proofs.taking.PoolOf+O+Call+Book+Numbered+O.take_all.Given as goal

abbrev pub invariant-loop : goal.invariant-loop
invariant-loop g l = record {
  own : IsPassOf g.O.Object.call_numbers g.O.Object.admits l.self l.pass;
  number : number l.pass.cell ≡ number l.fn.pass.cell;
  home : g.Ch.Chooser.home l.chooser ≡ g.Ch.Chooser.home l.fn.chooser;
  attr : l.pass.cell.attr ≡ l.fn.pass.cell.attr;
  asked : AsksInRounds l.fn.pass.cell.attr l.fn.pass.cell.decisions l.pass.cell.decisions (g.Ch.Chooser.told l.fn.chooser) (g.Ch.Chooser.told l.chooser);
}
