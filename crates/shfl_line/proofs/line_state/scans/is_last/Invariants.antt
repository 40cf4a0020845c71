use Rattle.std.proofs.Common.{◌≡◌, suc, cond, ◌==◌, drop}
use Rattle.shfl_line.specs.Passes.{last}
use Rattle.shfl_line.proofs.line_state.scans.is_last.Given as goal

abbrev pub invariant-loop-waiter : goal.invariant-loop-waiter
invariant-loop-waiter l =
    (last l.line == suc l.pass) ≡ cond (last (drop l.waiter-index l.line) == 0) l.is (last (drop l.waiter-index l.line) == suc l.pass)
