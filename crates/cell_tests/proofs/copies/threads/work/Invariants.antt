use Rattle.std.proofs.Common.{◌≡◌}
use Rattle.rw_cell.specs.RwCells.{number}
use Rattle.cell_tests.proofs.copies.threads.work.Given as goal

abbrev pub invariant-loop-before : goal.invariant-loop-before
invariant-loop-before g l = record {
  cell : l.pass.cell ≡ l.fn.pass.cell;
  opening : l.pass.opening ≡ l.fn.pass.opening;
  number : number l.pass ≡ number l.fn.pass;
}
