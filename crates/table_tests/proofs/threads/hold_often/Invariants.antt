use Rattle.shfl_table.specs.PassModel.{IsIdleAt}
use Rattle.table_tests.proofs.threads.hold_often.Given as goal

abbrev pub invariant-loop-hold : goal.invariant-loop-hold
invariant-loop-hold g l = IsIdleAt l.board.id l.pass
