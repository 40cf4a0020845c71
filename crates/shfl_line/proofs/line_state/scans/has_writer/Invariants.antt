use Rattle.std.proofs.Common.{◌≡◌, drop}
use Rattle.shfl_line.specs.Line.{writer_count}
use Rattle.shfl_line.proofs.line_state.scans.has_writer.Given as goal

abbrev pub invariant-loop-holder : goal.invariant-loop-holder
invariant-loop-holder l = writer_count (drop l.holder-index l.hold) ≡ writer_count l.hold
