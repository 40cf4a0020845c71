use Rattle.std.proofs.Common.{◌≡◌, ◌+◌, drop, sym, ap, ◌∙◌, arith}
use Rattle.trace_text.specs.declared.trace.Trace.{Trace}
use Rattle.trace_text.specs.Traces.{document_of, names_of, policy_names_of}
use Rattle.pool_text.specs.PoolDocuments.{pool_fault, fault_from, first_call_line}
use Rattle.pool_text.proofs.Faults.{which, too_many, an_attachment, next_line, none_left, attaches_all}
use Rattle.pool_text.proofs.calls.first_fault.Goals as goal

-- the lines of the trace in memory are the document's
of_document : (t : Trace) → fault_from 0 (first_call_line (document_of t)) (which t.calls.items) ≡ pool_fault (document_of t)
of_document t = ap (fault_from 0 (first_call_line (document_of t))) (sym (attaches_all (names_of t) (policy_names_of t) t.calls.items))

pub returns-then-place-ge-MOST_CALLS-clause-exact : goal.returns-then-place-ge-MOST_CALLS-clause-exact
returns-then-place-ge-MOST_CALLS-clause-exact c =
    let t = c.args.trace.now in
    rw c.first_line-first.ensures.exact
    (sym (too_many t.calls.items c.loop-place.place _ (omega arith) (omega arith)) ∙ (c.loop-place.invariant.none_yet ∙ of_document t))

pub returns-then-attaches-clause-exact : goal.returns-then-attaches-clause-exact
returns-then-attaches-clause-exact c =
    let t = c.args.trace.now in
    rw c.first_line-first.ensures.exact
    (sym (an_attachment t.calls.items c.loop-place.place _ c.index.result.now (omega arith) (omega arith) c.index.ensures (sym c.if-attaches.ensures)) ∙ (c.loop-place.invariant.none_yet ∙ of_document t))

pub loop-place-preserved : goal.loop-place-preserved
loop-place-preserved c =
    let t = c.args.trace.now in
    record {
      none_yet = ap (λ n. fault_from (c.loop-place.place + 1) n (drop (c.loop-place.place + 1) (which t.calls.items))) (omega arith)
          ∙ (sym (next_line t.calls.items c.loop-place.place (first_call_line (document_of t) + c.loop-place.place) c.index.result.now (omega arith) (omega arith) c.index.ensures
          (sym c.attaches.ensures ∙ c.if-attaches.false))
          ∙ c.loop-place.invariant.none_yet);
      few = omega arith;
    }

pub returns-clause-exact : goal.returns-clause-exact
returns-clause-exact c =
    let t = c.args.trace.now in
    sym (none_left t.calls.items c.loop-place.place _ (omega arith)) ∙ (c.loop-place.invariant.none_yet ∙ of_document t)
