use Rattle.std.proofs.Common.{◌≡◌, ◌++◌, take, drop}
use Rattle.shfl_line.specs.declared.events.Mode.{Mode}
use Rattle.shfl_line.specs.Steps.{add_holder}
use Rattle.shfl_line.proofs.line_state.scans.place_for.Given as goal

abbrev pub invariant-loop-i : goal.invariant-loop-i
invariant-loop-i l = (mode : Mode) → take l.i l.hold ++ add_holder l.pass mode (drop l.i l.hold) ≡ add_holder l.pass mode l.hold
