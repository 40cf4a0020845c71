use Rattle.sim_report.proofs.Rising.{sorted-is}
use Rattle.sim_report.proofs.endings.in_order.Goals as goal

pub returns : goal.returns
returns c = sorted-is c.args.waits.items c.sort.new.self.items c.in_ok-sort.ensures.permutation c.in_ok-sort.ensures.sorted
