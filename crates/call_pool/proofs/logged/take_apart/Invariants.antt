use Rattle.std.proofs.Common.{◌≡◌, ◌+◌, ◌≤◌, ◌++◌, map, length, vec_len, vec_capacity}
use Rattle.call_pool.proofs.logged.take_apart.Given as goal

abbrev pub invariant-loop-taker : goal.invariant-loop-taker
invariant-loop-taker g l = record {
  next : (goal.iterator-loop-taker g).can_next l.taker-iterator;
  finite : (goal.iterator-loop-taker g).is_finite l.taker-iterator;
  all : l.fn.takers.items ≡ l.yielded ++ l.taker-iterator.rest.items;
  passes : l.passes.items ≡ map (λ t. t.pass) l.yielded;
  logs : l.logs.items ≡ map (λ t. t.log) l.yielded;
  pass_room : vec_len l.passes + length l.taker-iterator.rest.items ≤ vec_capacity l.passes;
  log_room : vec_len l.logs + length l.taker-iterator.rest.items ≤ vec_capacity l.logs;
}
