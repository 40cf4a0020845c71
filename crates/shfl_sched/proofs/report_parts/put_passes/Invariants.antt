use Rattle.std.specs.Fmt.{decimal}
use Rattle.shfl_sched.proofs.Putting.{Listing}
use Rattle.shfl_sched.proofs.report_parts.put_passes.Given as goal

abbrev pub invariant-loop-pass : goal.invariant-loop-pass
invariant-loop-pass l = Listing decimal 20 l.fn.out l.out l.passes l.others l.pass-index
