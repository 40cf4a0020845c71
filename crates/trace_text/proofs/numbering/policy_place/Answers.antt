use Rattle.std.proofs.Common.{arith, sym, ◌∙◌, ap}
use Rattle.doc_text.proofs.Joining.{same-true}
use Rattle.trace_text.specs.declared.trace.NamedSource.{NamedSource}
use Rattle.name_order.proofs.Sorting.{bytes_at}
use Rattle.trace_text.proofs.numbering.policy_place.Goals as goal

pub returns-then-is_same-clause-found : goal.returns-then-is_same-clause-found
returns-then-is_same-clause-found c =
    let policy = c.index-policies-k.result in
    bytes_at (λ p. p.name.items) c.args.policies.now c.loop-k.k policy (omega arith)
    ∙ sym (ap (λ (p : NamedSource). p.name.items) c.index-policies-k.is)
    ∙ same-true policy.name.items c.args.name.now (rw (← c.as_slice.ensures.value) (sym c.is_same.ensures ∙ c.if-is_same.true))
