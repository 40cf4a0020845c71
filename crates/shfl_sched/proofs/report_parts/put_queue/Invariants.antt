use Rattle.shfl_sched.specs.ReportParts.{waiter_text}
use Rattle.shfl_sched.proofs.Putting.{Listing}
use Rattle.shfl_sched.proofs.report_parts.put_queue.Given as goal

abbrev pub invariant-loop-pass : goal.invariant-loop-pass
invariant-loop-pass l = Listing (waiter_text l.marks) 41 l.fn.out l.out l.line l.others l.pass-index
