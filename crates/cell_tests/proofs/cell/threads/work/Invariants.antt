use Rattle.std.proofs.Common.{◌≡◌}
use Rattle.shfl_cell.specs.Cells.{number}
use Rattle.cell_tests.proofs.cell.threads.work.Given as goal

abbrev pub invariant-loop-before : goal.invariant-loop-before
invariant-loop-before g l = record {
  cell : l.pass.cell ≡ l.fn.pass.cell;
  number : number l.pass ≡ number l.fn.pass;
}
