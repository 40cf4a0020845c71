use Rattle.std.proofs.Common.{◌≡◌, ◌≤◌, vec_len, vec_capacity}
use Rattle.waiter_sleep.proofs.fronts.QueueFronts.with_count.Given as goal

abbrev pub invariant-loop : goal.invariant-loop
invariant-loop l = (vec_len l.fronts ≡ l.counter) × (l.count ≤ vec_capacity l.fronts)
