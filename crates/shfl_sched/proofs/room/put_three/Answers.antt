use Rattle.std.proofs.Common.{sym, arith}
use Rattle.shfl_sched.proofs.Digits.{three_digits}
use Rattle.shfl_sched.proofs.Putting.{puts_as}
use Rattle.shfl_sched.proofs.room.put_three.Goals as goal

pub returns : goal.returns
returns c = puts_as _ _ _ _ _ _ (sym (three_digits c.args.n c.requires.0 c.requires.1)) (omega arith) c.put.ensures
