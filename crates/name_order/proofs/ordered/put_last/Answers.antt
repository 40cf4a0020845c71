use Rattle.std.proofs.Common.{inl, inr, refl}
use Rattle.name_order.proofs.ordered.put_last.Goals as goal

pub returns-then-not-ends_with-clause-put : goal.returns-then-not-ends_with-clause-put
returns-then-not-ends_with-clause-put c =
    inr (λ e. (let is = (rw (c.as_slice.ensures.value, c.as_slice-2.ensures.value) at c.ends_with.ensures.1) e in cc (is, c.if-not-ends_with.true)), c.push_reserved.ensures.items)

pub returns-else-not-ends_with-clause-put : goal.returns-else-not-ends_with-clause-put
returns-else-not-ends_with-clause-put c = inl (rw (c.as_slice.ensures.value, c.as_slice-2.ensures.value) at (c.ends_with.ensures.0 c.if-not-ends_with.false), refl)
