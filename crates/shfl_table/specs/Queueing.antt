-- When a pass that waits for the lock joins the queue.
use Rattle.std.specs.Prelude.{ℕ, Bool, cond}
use Rattle.shfl_table.specs.declared.queueing.Queueing.{Queueing}
use Rattle.shfl_table.specs.declared.queueing.Queueing.TheVariants.{AtOnce, After, ByPolicy}
use Rattle.shfl_table.specs.declared.queueing.TheConstants.{MOST_ATTEMPTS}

-- how many attempts it makes at most before, where the chooser may move waiters up or may not
abbrev pub attempts_before : Queueing → Bool → ℕ
attempts_before AtOnce moves_waiters = 0
attempts_before (After attempts) moves_waiters = attempts
attempts_before ByPolicy moves_waiters = cond moves_waiters 0 MOST_ATTEMPTS
