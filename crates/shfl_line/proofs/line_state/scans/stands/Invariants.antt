use Rattle.std.proofs.Common.{◌≡◌, drop}
use Rattle.shfl_line.specs.Passes.{times}
use Rattle.shfl_line.proofs.line_state.scans.stands.Given as goal

abbrev pub invariant-loop-waiter : goal.invariant-loop-waiter
invariant-loop-waiter l = times l.pass (drop l.waiter-index l.line) ≡ times l.pass l.line
