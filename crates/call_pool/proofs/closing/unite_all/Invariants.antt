use Rattle.std.proofs.Common.{◌≡◌, ◌+◌, ◌≤◌, ◌++◌, ◌||◌, map, length, vec_len, vec_capacity}
use Rattle.std.specs.List.{flat_map, list_any, sum_by}
use Rattle.call_pool.proofs.closing.unite_all.Given as goal

abbrev pub invariant-loop-pass : goal.invariant-loop-pass
invariant-loop-pass g l = record {
  next : (goal.iterator-loop-pass g).can_next l.pass-iterator;
  finite : (goal.iterator-loop-pass g).is_finite l.pass-iterator;
  all : l.fn.others.items ≡ l.yielded ++ l.pass-iterator.rest.items;
  taker : l.taker ≡ record l.fn.taker {
    parts = l.fn.taker.parts + sum_by (λ p. p.taker.parts) l.yielded;
    taken = l.fn.taker.taken ++ flat_map (λ p. p.taker.taken) l.yielded;
    ended = l.fn.taker.ended || list_any (λ p. p.taker.ended) l.yielded;
  };
  cells : l.cells.items ≡ l.fn.cells.items ++ map (λ p. p.cell) l.yielded;
  room : vec_len l.cells + length l.pass-iterator.rest.items ≤ vec_capacity l.cells;
}
