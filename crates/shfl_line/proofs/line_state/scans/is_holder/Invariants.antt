use Rattle.std.proofs.Common.{◌≡◌, drop}
use Rattle.shfl_line.specs.Line.{holds}
use Rattle.shfl_line.proofs.line_state.scans.is_holder.Given as goal

abbrev pub invariant-loop-holder : goal.invariant-loop-holder
invariant-loop-holder l = holds l.pass (drop l.holder-index l.hold) ≡ holds l.pass l.hold
