use Rattle.std.proofs.Common.{codes, ◌++◌, decimal, arith}
use Rattle.shfl_sched.specs.Report.{state_text}
use Rattle.shfl_sched.specs.ReportParts.{hold_text}
use Rattle.shfl_sched.proofs.Putting.{puts_as, puts_more, one_by_one}
use Rattle.shfl_sched.proofs.report.put_state.Goals as goal

pub returns : goal.returns
unfolding state_text
returns c =
    let s = c.args.state.now in
    let held = rw c.hold.ensures at c.put_hold.ensures in
    let front = puts_more _ _ _ _ _ _ _ (puts_more _ _ _ _ _ _ _ (puts_more _ _ _ _ _ _ _ c.put.ensures c.put_number.ensures) c.put-2.ensures) held in
    puts_as _ _ _ _ _ _ (one_by_one (codes " word " ++ decimal c.args.word ++ codes " hold " ++ hold_text s) _ _ _ _ _ _) (omega (arith, c.requires.holders))
    (puts_more _ _ _ _ _ _ _ front c.put_waiting.ensures)
