use Rattle.std.proofs.Common.{◌≡◌, ◌+◌, ◌≤◌, ◌++◌, List, Some, length, vec_len, vec_capacity}
use Rattle.std.specs.Vec.Iter.{into_iter_items}
use Rattle.policy_versions.specs.Models.{PassModel}
use Rattle.shfl_workers.specs.Activities.{Joined}
use Rattle.shfl_workers.proofs.Joining.{first_left}
use Rattle.shfl_workers.proofs.activity.join.Given as goal

abbrev pub invariant-loop-pass : goal.invariant-loop-pass
invariant-loop-pass g l = record {
  next : (goal.iterator-loop-pass g).can_next l.pass-iterator;
  finite : (goal.iterator-loop-pass g).is_finite l.pass-iterator;
  all : l.fn.passes.items ≡ l.yielded ++ l.pass-iterator.rest.items;
  users : (done : List PassModel) × (l.fn.users.items ≡ done ++ into_iter_items l.users) × Joined l.yielded done l.fn.keeps (Some l.fn.attaching) l.activities.items;
  attaching : l.attaching ≡ first_left l.yielded (Some l.fn.attaching);
  room : vec_len l.activities + length l.pass-iterator.rest.items ≤ vec_capacity l.activities;
}
