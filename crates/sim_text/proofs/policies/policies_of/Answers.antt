use Rattle.std.proofs.Common.{◌≡◌, [], length, Option, Ok, arith, ap, ◌∙◌}
use Rattle.std.proofs.lemmas.Grind.{common_steps}
use Rattle.std.proofs.lemmas.Result.{err_from_is_err_and}
use Rattle.doc_text.specs.Text.{pieces}
use Rattle.doc_text.proofs.LineEnds.{pieces-none}
use Rattle.std.specs.Option.{option_map}
use Rattle.sim_text.specs.declared.policies.NamedLine.{NamedLine}
use Rattle.sim_text.specs.Said.{line_said}
use Rattle.sim_text.specs.Grammar.{ReadsPolicies}
use Rattle.sim_text.proofs.PolicyLoop.{reads-odd, reads-error, rule-error, reads-end, reads-more, reads-none}
use Rattle.policy_text.proofs.Chains.{ok_some}
use Rattle.sim_text.proofs.policies.policies_of.Goals as goal

pub returns-in_default-clause-exact : goal.returns-in_default-clause-exact
returns-in_default-clause-exact c = c.loop-rest.invariant.read _ (reads-odd c.args.profile c.loop-rest.policies.items c.loop-rest.line (pieces c.loop-rest.rest.now) c.in_default.ensures.text)

pub returns-in_err-policy-clause-exact : goal.returns-in_err-policy-clause-exact
returns-in_err-policy-clause-exact c =
    let p = err_from_is_err_and c.from_residual.result c.from_residual.ensures.1 in
    rw (p.1, p.2) (reads-error c.args.profile c.loop-rest.policies.items c.loop-rest.line (pieces c.loop-rest.rest.now) (pieces c.in-Some.after.now) c.in-Some.text.now c.in-Some.ensures.text
    c.in_err-policy.field-0.0 (ReadsPolicies c.args.profile [] 10 (pieces c.args.bytes.now)) (rw c.as_slice.ensures.value at c.in_err-policy.ensures.exact) c.loop-rest.invariant.read)

pub returns-in_default-2-clause-exact : goal.returns-in_default-2-clause-exact
returns-in_default-2-clause-exact c =
    let says = rw c.as_slice.ensures.value at c.in_ok-policy.ensures.exact in
    c.loop-rest.invariant.read _ (reads-end c.args.profile c.loop-rest.policies.items c.loop-rest.line (pieces c.loop-rest.rest.now) (pieces c.in-Some.after.now) c.in-Some.text.now c.in-Some.ensures.text
    (says ∙ ap (λ (o : Option NamedLine). Ok (option_map line_said o)) c.in_default-2.is))

pub returns-in_err-rule-clause-exact : goal.returns-in_err-rule-clause-exact
returns-in_err-rule-clause-exact c =
    let p = err_from_is_err_and c.from_residual-in_err-rule.result c.from_residual-in_err-rule.ensures.1 in
    let says = rw c.as_slice.ensures.value at c.in_ok-policy.ensures.exact in
    rw (p.1, p.2) (rule-error c.args.profile c.loop-rest.policies.items c.loop-rest.line (pieces c.loop-rest.rest.now) (pieces c.in-Some.after.now) c.in-Some.text.now c.in-Some.ensures.text
    (line_said c.in-Some-2.policy) c.in_err-rule.field-0.0 (ReadsPolicies c.args.profile [] 10 (pieces c.args.bytes.now)) (says ∙ ap (λ (o : Option NamedLine). Ok (option_map line_said o)) c.in-Some-2.is)
    c.in_err-rule.ensures c.loop-rest.invariant.read)

pub loop-rest-preserved : goal.loop-rest-preserved
loop-rest-preserved c =
    let says = rw c.as_slice.ensures.value at c.in_ok-policy.ensures.exact in
    let room = ok_some c.in_ok-policy.field-0 c.in-Some-2.policy c.in-Some-2.is c.in_ok-policy.ensures.room in
    record {
      read = λ read more. c.loop-rest.invariant.read read (reads-more c.args.profile c.loop-rest.policies.items c.loop-rest.line (pieces c.loop-rest.rest.now) (pieces c.in-Some.after.now) c.in-Some.text.now c.in-Some.ensures.text
          (line_said c.in-Some-2.policy) c.in_ok-rule.rule read (says ∙ ap (λ (o : Option NamedLine). Ok (option_map line_said o)) c.in-Some-2.is) c.in_ok-rule.ensures (rw c.in_ok-push.ensures.items at more));
      line = omega (arith, c.in_ok-push.ensures.len);
      few = omega (arith, c.in_ok-push.ensures.len, room, c.as_slice.ensures.len);
    }

pub returns-clause-exact : goal.returns-clause-exact
returns-clause-exact c =
    let none : length c.loop-rest.rest.now ≡ 0 = grind (arith, common_steps) in
    c.loop-rest.invariant.read _ (reads-none c.args.profile c.loop-rest.policies.items c.loop-rest.line (pieces c.loop-rest.rest.now) (pieces-none c.loop-rest.rest.now none))
