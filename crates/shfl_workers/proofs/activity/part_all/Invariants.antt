use Rattle.std.proofs.Common.{◌≡◌, ◌+◌, ◌≤◌, ◌++◌, map, length, vec_len, vec_capacity}
use Rattle.shfl_workers.specs.Activities.{unlogged}
use Rattle.shfl_workers.proofs.activity.part_all.Given as goal

abbrev pub invariant-loop-activity : goal.invariant-loop-activity
invariant-loop-activity g l = record {
  next : (goal.iterator-loop-activity g).can_next l.activity-iterator;
  finite : (goal.iterator-loop-activity g).is_finite l.activity-iterator;
  all : l.fn.activities.items ≡ l.yielded ++ l.activity-iterator.rest.items;
  passes : l.passes.items ≡ l.fn.passes.items ++ map (λ a. a.pass) l.yielded;
  users : l.users.items ≡ l.fn.users.items ++ map (λ a. unlogged a.user) l.yielded;
  logs : l.logs.items ≡ l.fn.logs.items ++ map (λ a. a.user.log) l.yielded;
  pass_room : vec_len l.passes + length l.activity-iterator.rest.items ≤ vec_capacity l.passes;
  user_room : vec_len l.users + length l.activity-iterator.rest.items ≤ vec_capacity l.users;
  log_room : vec_len l.logs + length l.activity-iterator.rest.items ≤ vec_capacity l.logs;
}
