use Rattle.std.proofs.Common.{◌≡◌, ◌≤◌, ◌++◌, map, length, vec_capacity}
use Rattle.std.specs.List.{AllWithin}
use Rattle.name_order.specs.Places.{IsTold}
use Rattle.name_order.proofs.Sorting.{Keeps}
use Rattle.name_order.proofs.ordered.each_once.Given as goal

abbrev pub invariant-loop-own : goal.invariant-loop-own
invariant-loop-own l = record {
  next : goal.iterator-loop-own.can_next l.own-iterator;
  finite : goal.iterator-loop-own.is_finite l.own-iterator;
  all : l.fn.sorted.items ≡ l.yielded ++ l.own-iterator.rest.items;
  keeps : Keeps (λ n. n.items) (map (λ p. p.name.items) l.fn.sorted.items) (length l.yielded) l.names.items;
  few : length l.names.items ≤ length l.yielded;
  room : length l.fn.sorted.items ≤ vec_capacity l.names;
  many : length l.places.items ≡ l.count;
  told : AllWithin (IsTold (map (λ n. n.items) l.names.items) l.places.items) l.fn.sorted.items 0 (length l.yielded);
}
