use Rattle.shfl_sched.specs.ReportParts.{holder_text}
use Rattle.shfl_sched.proofs.Putting.{Listing}
use Rattle.shfl_sched.proofs.report_parts.put_hold.Given as goal

abbrev pub invariant-loop-holder : goal.invariant-loop-holder
invariant-loop-holder l = Listing holder_text 21 l.fn.out l.out l.hold l.others l.holder-index
