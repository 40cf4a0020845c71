use Rattle.std.proofs.Common.{◌≡◌, ◌<◌, ◌+◌, ◌-◌, ◌≤◌, inl, inr, ℕ, List, Vec, Global, [], ◌∷◌, ◌++◌, map, length, get_or, refl, sym, ap, ◌∙◌, arith, length-append}
use Rattle.std.proofs.lemmas.List.{append-nil, append_assoc, map-append, length-set}
use Rattle.std.proofs.Math.Seq.{get_or-append_seam}
use Rattle.name_order.specs.declared.ordered.Placed.{Placed}
use Rattle.name_order.proofs.Sorting.{keeps-start, step-old, step-new, all-same}
use Rattle.name_order.proofs.InOrder.{sorted-names, told-more, last-stands, new-stands}
use Rattle.name_order.proofs.ordered.each_once.Goals as goal

pub loop-own-init : goal.loop-own-init
loop-own-init c = record {
  next = tt;
  finite = tt;
  all = sym c.into_iter-own-iterator.ensures.into_iter_gives.0;
  keeps = rw c.in_ok-names.ensures.items (keeps-start (λ n. n.items) (map (λ p. p.name.items) c.args.sorted.items));
  few = rw c.in_ok-names.ensures.items (omega arith);
  room = omega (arith, c.in_ok-names.ensures.capacity, c.len.ensures, c.args.sorted.ok);
  many = omega (arith, c.in_ok-places.ensures.len, c.in_ok-places.places.ok);
  told = λ k d low high. absurd (omega (arith, high));
}

pub loop-own-preserved : goal.loop-own-preserved
loop-own-preserved c =
    let parts = c.args.sorted.items in
    let yielded = c.loop-own.yielded in
    let i = length yielded in
    let own = c.in-Some.own in
    let rest = c.next.new.self.rest.items in
    let names = c.loop-own.names.items in
    let places = c.loop-own.places.items in
    let v = c.loop-own.invariant in
    let split : parts ≡ yielded ++ own ∷ rest = v.all ∙ ap (λ l. yielded ++ l) c.in-Some.ensures.steps.0 in
    let at = λ (d : Placed). ap (λ l. get_or l i d) split ∙ get_or-append_seam yielded own rest d in
    let inside : i < length parts = omega (arith, ap length split, length-append yielded (own ∷ rest)) in
    let place : own.place < length places = omega (arith, rw (at own) at (c.requires.within i own inside), v.many) in
    let long : length (yielded ++ own ∷ []) ≡ i + 1 = length-append yielded (own ∷ []) in
    let last = λ (new : List (Vec ℕ Global)) (is : c.put_last.new.names.items ≡ new). (let e : c.len-in-loop-own.result - 1 ≡ length new - 1 = omega (arith, c.len-in-loop-own.ensures, ap length is, c.put_last.new.names.ok) in e) in
    record {
      next = tt;
      finite = tt;
      all = split ∙ sym (append_assoc yielded (own ∷ []) rest);
      keeps = rw long (elim c.put_last.ensures.put [
        | inl (ends, same) ↦ rw same (step-old (λ n. n.items) (λ p. p.name.items) parts i names own inside (rw (at own) ends) v.keeps)
        | inr (other, more) ↦ rw more (step-new (λ n. n.items) (λ p. p.name.items) parts i names own own.name inside (ap (λ (p : Placed). p.name.items) (sym (at own))) (sorted-names parts c.requires.sorted c.requires.headed) (rw (at own) other) v.keeps)
      ]);
      few = rw long (elim c.put_last.ensures.put [
        | inl (ends, same) ↦ rw same (omega (arith, v.few))
        | inr (other, more) ↦ rw (more, length-append) (omega (arith, v.few))
      ]);
      room = omega (arith, c.put_last.ensures.room, v.room);
      many = length-set places own.place (c.len-in-loop-own.result - 1) ∙ v.many;
      told = rw long (elim c.put_last.ensures.put [
        | inl (ends, same) ↦ rw (same, last names same) (told-more parts c.requires.apart i own inside at (map (λ n. n.items) names) (map (λ n. n.items) names) [] (sym (append-nil (map (λ n. n.items) names))) places _ place
            (last-stands (λ n. n.items) names own.name.items ends) v.told)
        | inr (other, more) ↦ rw (more, last (names ++ own.name ∷ []) more) (told-more parts c.requires.apart i own inside at (map (λ n. n.items) names) (map (λ n. n.items) (names ++ own.name ∷ [])) (own.name.items ∷ []) (map-append (λ n. n.items) names (own.name ∷ [])) places _ place
            (new-stands (λ n. n.items) names own.name own.name.items refl) v.told)
      ]);
    }

pub returns-clause-same : goal.returns-clause-same
returns-clause-same c =
    let i = length c.loop-own.yielded in
    let all : length c.args.sorted.items ≤ i = omega (arith, ap length c.loop-own.invariant.all, length-append c.loop-own.yielded c.loop-own.own-iterator.rest.items, c.in-None.ensures.steps.0, c.loop-own.own-iterator.rest.ok) in
    all-same (λ n. n.items) (λ p. p.name.items) c.args.sorted.items c.loop-own.names.items i all c.loop-own.invariant.keeps
