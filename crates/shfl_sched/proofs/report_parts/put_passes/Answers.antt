use Rattle.std.proofs.Common.{arith}
use Rattle.std.proofs.lemmas.Grind.{common_steps}
use Rattle.std.specs.Fmt.{decimal}
use Rattle.shfl_sched.proofs.Putting.{listing_goes_on}
use Rattle.shfl_sched.proofs.report_parts.put_passes.Goals as goal

pub loop-pass-preserved : goal.loop-pass-preserved
loop-pass-preserved c =
    listing_goes_on decimal 20 c.args.out.now c.args.passes.now c.in-Some.others.now _ _ _ c.loop-pass.pass-index _ (grind (arith, common_steps))
    c.loop-pass.invariant c.put-in-loop-pass.ensures (rw c.from-in-loop-pass.ensures at c.put_number-in-loop-pass.ensures)
