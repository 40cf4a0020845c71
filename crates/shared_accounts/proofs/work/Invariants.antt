use Rattle.std.proofs.Common.{◌≡◌, ◌+◌, ◌*◌, ◌≤◌}
use Rattle.rw_cell.specs.RwCells.{number}
use Rattle.shared_accounts.specs.declared.TheConstants.{ROUNDS}
use Rattle.shared_accounts.specs.Rounds.{rounds, HasMade}
use Rattle.shared_accounts.proofs.work.Given as goal

abbrev pub invariant-loop-round : goal.invariant-loop-round
invariant-loop-round g l = record {
  cell : l.pass.cell ≡ l.fn.pass.cell;
  opening : l.pass.opening ≡ l.fn.pass.opening;
  number : number l.pass ≡ number l.fn.pass;
  left : 2 * ROUNDS ≤ l.pass.left + 2 * l._round;
  made : HasMade l.pass (rounds l.amount l._round);
}
