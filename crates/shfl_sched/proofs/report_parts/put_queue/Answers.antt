use Rattle.std.proofs.Common.{arith}
use Rattle.std.proofs.lemmas.Grind.{common_steps}
use Rattle.shfl_sched.specs.ReportParts.{waiter_text}
use Rattle.shfl_sched.proofs.Putting.{listing_goes_on}
use Rattle.shfl_sched.proofs.report_parts.put_queue.Goals as goal

pub loop-pass-preserved : goal.loop-pass-preserved
loop-pass-preserved c =
    listing_goes_on (waiter_text c.args.marks.now) 41 c.args.out.now c.args.line.now c.in-Some.others.now _ _ _ c.loop-pass.pass-index _ (grind (arith, common_steps))
    c.loop-pass.invariant c.put-in-loop-pass.ensures c.put_waiter-in-loop-pass.ensures
