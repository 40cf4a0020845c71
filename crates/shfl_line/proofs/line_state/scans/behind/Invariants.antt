use Rattle.std.proofs.Common.{◌≡◌, drop}
use Rattle.shfl_line.specs.Passes.{behind}
use Rattle.shfl_line.proofs.line_state.scans.behind.Given as goal

abbrev pub invariant-loop-i : goal.invariant-loop-i
invariant-loop-i l = behind l.pass (drop l.i l.line) ≡ behind l.pass l.line
