use Rattle.std.proofs.Common.{◌≡◌, ◌≤◌, map, length, sym, ◌∙◌, arith}
use Rattle.std.proofs.lemmas.List.{length-map}
use Rattle.std.proofs.lemmas.List.Sorted.{length_permutation, All-permutation}
use Rattle.name_order.specs.declared.ordered.Placed.{Placed}
use Rattle.name_order.specs.Names.{SameMembers}
use Rattle.std.specs.Prelude.{All}
use Rattle.name_order.specs.Places.{ArePlaces, IsHeaded, IsTold}
use Rattle.name_order.proofs.Sorting.{ok_then, ok_both}
use Rattle.name_order.proofs.InOrder.{placed-permuted, placed-apart, placed-within, placed-same, told-places}
use Rattle.name_order.proofs.ordered.put_in_order.Goals as goal

pub each_once-requires-clause-within : goal.each_once-requires-clause-within
each_once-requires-clause-within c =
    let names = map (λ n. n.now) c.args.names.now in
    placed-within names c.sort_unstable.new.self.items (length c.args.names.now) (sym (length-map c.args.names.now (λ n. n.now)))
    (placed-permuted names c.in_ok-all.all.items c.sort_unstable.new.self.items c.sort_unstable.ensures.permutation c.in_ok-all.ensures.placed)

pub each_once-requires-clause-headed : goal.each_once-requires-clause-headed
each_once-requires-clause-headed c =
    let headed = c.in_ok-all.ensures.headed in
    (headed.0, All-permutation (IsHeaded headed.0) c.in_ok-all.all.items c.sort_unstable.new.self.items c.sort_unstable.ensures.permutation headed.1)

pub each_once-requires-clause-apart : goal.each_once-requires-clause-apart
each_once-requires-clause-apart c =
    let names = map (λ n. n.now) c.args.names.now in
    placed-apart names c.sort_unstable.new.self.items
    (placed-permuted names c.in_ok-all.all.items c.sort_unstable.new.self.items c.sort_unstable.ensures.permutation c.in_ok-all.ensures.placed)

pub each_once-requires-clause-few : goal.each_once-requires-clause-few
each_once-requires-clause-few c = omega (arith, length_permutation c.in_ok-all.all.items c.sort_unstable.new.self.items c.sort_unstable.ensures.permutation, c.in_ok-all.ensures.many, c.requires)

pub returns-clause-same : goal.returns-clause-same
returns-clause-same c =
    let names = map (λ n. n.now) c.args.names.now in
    let sorted = c.sort_unstable.new.self.items in
    let placed = placed-permuted names c.in_ok-all.all.items sorted c.sort_unstable.ensures.permutation c.in_ok-all.ensures.placed in
    ok_then c.each_once.result
    (λ o. SameMembers (map (λ (p : Placed). p.name.items) sorted) (map (λ n. n.items) o.names.items))
    (λ o. SameMembers names (map (λ n. n.items) o.names.items))
    (λ o t n. (let s = placed-same names sorted placed n in (λ x. (t n).0 (s.0 x), λ x. s.1 ((t n).1 x))))
    c.each_once.ensures.same

pub returns-clause-few : goal.returns-clause-few
returns-clause-few c =
    let long : length c.sort_unstable.new.self.items ≡ length c.args.names.now = length_permutation c.in_ok-all.all.items c.sort_unstable.new.self.items c.sort_unstable.ensures.permutation ∙ c.in_ok-all.ensures.many in
    ok_then c.each_once.result
    (λ o. length o.names.items ≤ length c.sort_unstable.new.self.items)
    (λ o. length o.names.items ≤ length c.args.names.now)
    (λ o h. omega (arith, h, long))
    c.each_once.ensures.few

pub returns-clause-places : goal.returns-clause-places
returns-clause-places c =
    let names = map (λ n. n.now) c.args.names.now in
    let sorted = c.sort_unstable.new.self.items in
    let placed = placed-permuted names c.in_ok-all.all.items sorted c.sort_unstable.ensures.permutation c.in_ok-all.ensures.placed in
    ok_both c.each_once.result
    (λ o. length o.places.items ≡ length c.args.names.now)
    (λ o. All (IsTold (map (λ n. n.items) o.names.items) o.places.items) sorted)
    (λ o. ArePlaces names (map (λ n. n.items) o.names.items) o.places.items)
    (λ o many told. told-places names (map (λ n. n.items) o.names.items) sorted o.places.items (many ∙ sym (length-map c.args.names.now (λ n. n.now))) placed told)
    c.each_once.ensures.many c.each_once.ensures.told
