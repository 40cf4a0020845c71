use Rattle.std.proofs.Common.{ℕ, List, [], map, length, get_or, refl, sym, ◌∙◌, arith, Bor}
use Rattle.std.proofs.lemmas.List.{length-map, get_or-map, take_rest}
use Rattle.std.proofs.lemmas.List.Elements.{All-push}
use Rattle.name_order.specs.declared.ordered.Placed.{Placed}
use Rattle.name_order.specs.Places.{IsHeaded}
use Rattle.name_order.proofs.InOrder.{placed-more, all-placed}
use Rattle.name_order.proofs.ordered.with_places.Goals as goal

pub returns-clause-placed : goal.returns-clause-placed
returns-clause-placed c = all-placed (map (λ n. n.now) c.args.names.now) c.loop-place.place c.loop-place.all.items (omega (arith, length-map c.args.names.now (λ n. n.now), c.loop-place.auto.place-end)) c.loop-place.invariant.placed

pub returns-clause-headed : goal.returns-clause-headed
returns-clause-headed c = (c.front_of-front.result.now, c.loop-place.invariant.headed)

pub returns-clause-many : goal.returns-clause-many
returns-clause-many c = omega (arith, c.loop-place.invariant.placed.many, c.loop-place.auto.place-end)

pub loop-place-preserved : goal.loop-place-preserved
loop-place-preserved c =
    let names = c.args.names.now in
    let front = c.front_of-front.result.now in
    let k = c.loop-place.place in
    let none : Bor (List ℕ) = record { ref_ptr = (0, 0); now = [] } in
    let own-name = (get_or names k none).now in
    let name = c.in_ok-from_slice.field-0 in
    let same = c.in_ok-from_slice.ensures.items in
    let own : Placed = record { head = c.head_of.result; name = name; place = k } in
    let headed : IsHeaded front own = record { begins = rw same (c.front_of-front.ensures k none c.loop-place-test.true); head = rw same (rw (take_rest own-name (length front)) at c.head_of.ensures) } in
    record {
      placed = rw c.push_reserved.ensures.items
          (placed-more (map (λ n. n.now) names) k c.loop-place.all.items own refl (same ∙ sym (get_or-map (λ n. n.now) names k none [] c.loop-place-test.true)) c.loop-place.invariant.placed);
      headed = rw c.push_reserved.ensures.items (All-push (IsHeaded front) c.loop-place.all.items own c.loop-place.invariant.headed headed);
      many = omega (arith, c.push_reserved.ensures.len, c.loop-place.invariant.many);
      room = omega (arith, c.push_reserved.ensures.capacity, c.loop-place.invariant.room);
    }
