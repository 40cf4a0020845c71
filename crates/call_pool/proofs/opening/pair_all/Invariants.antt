use Rattle.std.proofs.Common.{◌≡◌, ◌+◌, ◌≤◌, ◌++◌, List, length, vec_len, vec_capacity, All}
use Rattle.call_queue.specs.Queues.{IsFresh}
use Rattle.call_pool.specs.Pools.{PoolPassModel, ArePaired}
use Rattle.call_pool.proofs.opening.pair_all.Given as goal

abbrev pub invariant-loop-cell : goal.invariant-loop-cell
invariant-loop-cell g l = record {
  next : (goal.iterator-loop-cell g).can_next l.cell-iterator;
  finite : (goal.iterator-loop-cell g).is_finite l.cell-iterator;
  all : l.fn.cells.items ≡ l.yielded ++ l.cell-iterator.rest.items;
  paired : (added : List (PoolPassModel g.row.C.Denot)) × (l.passes.items ≡ l.fn.passes.items ++ added) × ArePaired l.queue l.yielded added;
  fresh : All (IsFresh l.queue.id l.queue.calls) l.takers.items;
  left : vec_len l.takers ≡ length l.cell-iterator.rest.items;
  room : vec_len l.passes + length l.cell-iterator.rest.items ≤ vec_capacity l.passes;
}
