use Rattle.std.proofs.Common.{◌≡◌, ◌++◌, take, drop}
use Rattle.shfl_line.specs.Steps.{remove_holder}
use Rattle.shfl_line.proofs.line_state.scans.place_of_holder.Given as goal

abbrev pub invariant-loop-i : goal.invariant-loop-i
invariant-loop-i l = take l.i l.hold ++ remove_holder l.pass (drop l.i l.hold) ≡ remove_holder l.pass l.hold
