use Rattle.std.proofs.Common.{◌≡◌, [], length, map, Option, Ok, arith, ap, ◌∙◌}
use Rattle.std.proofs.lemmas.Grind.{common_steps}
use Rattle.std.proofs.lemmas.Result.{err_from_is_err_and}
use Rattle.doc_text.specs.Text.{pieces}
use Rattle.doc_text.proofs.LineEnds.{pieces-none}
use Rattle.trace_text.specs.Traces.{policy_of}
use Rattle.trace_text.specs.declared.trace.NamedSource.{NamedSource}
use Rattle.trace_text.specs.Grammar.{ReadsPolicies}
use Rattle.std.specs.Option.{option_map}
use Rattle.std.proofs.lemmas.List.{map-append}
use Rattle.trace_text.proofs.PolicyLoop.{reads-odd, reads-error, reads-end, reads-refused, reads-more, reads-none}
use Rattle.name_order.proofs.Sorting.{ok_some}
use Rattle.trace_text.proofs.policies.policies_of.Goals as goal

pub returns-in_default-clause-exact : goal.returns-in_default-clause-exact
returns-in_default-clause-exact c = c.loop-rest.invariant.read _ (reads-odd c.args.profile (map policy_of c.loop-rest.policies.items) c.loop-rest.line (pieces c.loop-rest.rest.now) c.in_default.ensures.text)

pub returns-in_err-policy-clause-exact : goal.returns-in_err-policy-clause-exact
returns-in_err-policy-clause-exact c =
    let p = err_from_is_err_and c.from_residual.result c.from_residual.ensures.1 in
    rw (p.1, p.2) (reads-error c.args.profile (map policy_of c.loop-rest.policies.items) c.loop-rest.line (pieces c.loop-rest.rest.now) (pieces c.in-Some.after.now) c.in-Some.text.now c.in-Some.ensures.text
    c.in_err-policy.field-0.0 (ReadsPolicies c.args.profile [] c.args.first (pieces c.args.bytes.now)) (rw c.as_slice.ensures.value at c.in_err-policy.ensures.exact) c.loop-rest.invariant.read)

pub returns-in_default-2-clause-exact : goal.returns-in_default-2-clause-exact
returns-in_default-2-clause-exact c =
    let says = rw c.as_slice.ensures.value at c.in_ok-policy.ensures.exact in
    c.loop-rest.invariant.read _ (reads-end c.args.profile (map policy_of c.loop-rest.policies.items) c.loop-rest.line (pieces c.loop-rest.rest.now) (pieces c.in-Some.after.now) c.in-Some.text.now c.in-Some.ensures.text
    (says ∙ ap (λ (o : Option NamedSource). Ok (option_map policy_of o)) c.in_default-2.is))

pub returns-in_err-accepts-clause-exact : goal.returns-in_err-accepts-clause-exact
returns-in_err-accepts-clause-exact c =
    let p = err_from_is_err_and c.from_residual-in_err-accepts.result c.from_residual-in_err-accepts.ensures.1 in
    rw (p.1, p.2) tt

pub returns-then-not-branch-clause-exact : goal.returns-then-not-branch-clause-exact
returns-then-not-branch-clause-exact c =
    let says = rw c.as_slice.ensures.value at c.in_ok-policy.ensures.exact in
    c.loop-rest.invariant.read _ (reads-refused c.args.profile (map policy_of c.loop-rest.policies.items) c.loop-rest.line (pieces c.loop-rest.rest.now) (pieces c.in-Some.after.now) c.in-Some.text.now c.in-Some.ensures.text
    (policy_of c.in-Some-2.policy) (says ∙ ap (λ (o : Option NamedSource). Ok (option_map policy_of o)) c.in-Some-2.is) (λ a. (let yes_ = c.in_ok-accepts.ensures.1 a in cc (yes_, c.if-not-branch.true))))

pub loop-rest-preserved : goal.loop-rest-preserved
loop-rest-preserved c =
    let says = rw c.as_slice.ensures.value at c.in_ok-policy.ensures.exact in
    let room = ok_some c.in_ok-policy.field-0 c.in-Some-2.policy c.in-Some-2.is c.in_ok-policy.ensures.room in
    record {
      read = λ read more. c.loop-rest.invariant.read read (reads-more c.args.profile (map policy_of c.loop-rest.policies.items) c.loop-rest.line (pieces c.loop-rest.rest.now) (pieces c.in-Some.after.now) c.in-Some.text.now c.in-Some.ensures.text
          (policy_of c.in-Some-2.policy) read (says ∙ ap (λ (o : Option NamedSource). Ok (option_map policy_of o)) c.in-Some-2.is) (c.in_ok-accepts.ensures.0 c.if-not-branch.false) (rw (c.in_ok-push.ensures.items, map-append) at more));
      line = omega (arith, c.in_ok-push.ensures.len);
      few = omega (arith, c.in_ok-push.ensures.len, room, c.as_slice.ensures.len);
    }

pub returns-clause-exact : goal.returns-clause-exact
returns-clause-exact c =
    let none : length c.loop-rest.rest.now ≡ 0 = grind (arith, common_steps) in
    c.loop-rest.invariant.read _ (reads-none c.args.profile (map policy_of c.loop-rest.policies.items) c.loop-rest.line (pieces c.loop-rest.rest.now) (pieces-none c.loop-rest.rest.now none))
