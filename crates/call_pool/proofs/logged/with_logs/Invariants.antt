use Rattle.std.proofs.Common.{◌≡◌, ◌+◌, ◌≤◌, ◌++◌, map, length, vec_len, vec_capacity}
use Rattle.call_pool.specs.Rounds.{with_log}
use Rattle.call_pool.proofs.logged.with_logs.Given as goal

abbrev pub invariant-loop-pass : goal.invariant-loop-pass
invariant-loop-pass g l = record {
  next : (goal.iterator-loop-pass g).can_next l.pass-iterator;
  finite : (goal.iterator-loop-pass g).is_finite l.pass-iterator;
  all : l.fn.passes.items ≡ l.yielded ++ l.pass-iterator.rest.items;
  takers : l.takers.items ≡ map (with_log l.fn.keeps) l.yielded;
  room : vec_len l.takers + length l.pass-iterator.rest.items ≤ vec_capacity l.takers;
}
