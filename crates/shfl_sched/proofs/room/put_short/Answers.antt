use Rattle.std.proofs.Common.{sym, arith}
use Rattle.doc_text.proofs.Decimals.{one_digit, two_digits}
use Rattle.shfl_sched.proofs.Putting.{puts_as}
use Rattle.shfl_sched.proofs.room.put_short.Goals as goal

pub returns-then-n-lt10 : goal.returns-then-n-lt10
returns-then-n-lt10 c = puts_as _ _ _ _ _ _ (sym (one_digit c.args.n c.if-n-lt10.true)) (omega arith) c.put.ensures

pub returns-else-n-lt10 : goal.returns-else-n-lt10
returns-else-n-lt10 c = puts_as _ _ _ _ _ _ (sym (two_digits c.args.n (omega arith) c.requires)) (omega arith) c.put_pair.ensures
