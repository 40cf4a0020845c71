use Rattle.std.proofs.Common.{arith}
use Rattle.std.proofs.lemmas.Grind.{common_steps}
use Rattle.shfl_sched.specs.ReportParts.{holder_text}
use Rattle.shfl_sched.proofs.Putting.{listing_goes_on}
use Rattle.shfl_sched.proofs.report_parts.put_hold.Goals as goal

pub loop-holder-preserved : goal.loop-holder-preserved
loop-holder-preserved c =
    listing_goes_on holder_text 21 c.args.out.now c.args.hold.now c.in-Some.others.now _ _ _ c.loop-holder.holder-index _ (grind (arith, common_steps))
    c.loop-holder.invariant c.put-in-loop-holder.ensures c.put_holder-in-loop-holder.ensures
