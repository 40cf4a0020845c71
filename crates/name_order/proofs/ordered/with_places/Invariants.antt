use Rattle.std.proofs.Common.{◌≡◌, ◌≤◌, map, length, vec_len, vec_capacity}
use Rattle.std.specs.Prelude.{All}
use Rattle.name_order.specs.Places.{IsHeaded}
use Rattle.name_order.proofs.InOrder.{PlacedBefore}
use Rattle.name_order.proofs.ordered.with_places.Given as goal

abbrev pub invariant-loop-place : goal.invariant-loop-place
invariant-loop-place l = record {
  placed : PlacedBefore (map (λ n. n.now) l.names) l.place l.all.items;
  headed : All (IsHeaded l.front) l.all.items;
  many : vec_len l.all ≡ l.place;
  room : length l.names ≤ vec_capacity l.all;
}
