use Rattle.std.proofs.Common.{sym, arith}
use Rattle.shfl_sched.proofs.Digits.{last_pair}
use Rattle.shfl_sched.proofs.Putting.{puts_as, puts_more}
use Rattle.shfl_sched.proofs.room.put_long.Goals as goal

pub returns-then-n-lt10000 : goal.returns-then-n-lt10000
returns-then-n-lt10000 c =
    puts_as _ _ _ _ _ _ (sym (last_pair c.args.n c.requires (omega arith))) (omega arith) (puts_more _ _ _ _ _ _ _ c.put_short.ensures c.put_pair.ensures)

pub returns-then-n-lt100000 : goal.returns-then-n-lt100000
returns-then-n-lt100000 c =
    puts_as _ _ _ _ _ _ (sym (last_pair c.args.n c.requires (omega arith))) (omega arith)
    (puts_more _ _ _ _ _ _ _ c.put_three-then-n-lt100000.ensures c.put_pair-then-n-lt100000.ensures)
