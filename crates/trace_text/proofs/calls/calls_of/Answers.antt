use Rattle.std.proofs.Common.{◌≡◌, length, map, refl, ap, arith}
use Rattle.std.proofs.lemmas.Grind.{common_steps}
use Rattle.std.proofs.lemmas.Result.{err_from_is_err_and}
use Rattle.doc_text.specs.Text.{pieces}
use Rattle.doc_text.proofs.LineEnds.{pieces-none}
use Rattle.doc_text.proofs.Loops.{lines_from-more, lines_from-odd, lines_from-bad, lines_from-done}
use Rattle.trace_text.specs.CallLists.{list_said}
use Rattle.trace_text.specs.Grammar.{call_says, calls_in}
use Rattle.trace_text.specs.Spelled.{call_said}
use Rattle.trace_text.specs.Traces.{policy_of}
use Rattle.trace_text.proofs.Gathering.{none-said, length-more}
use Rattle.trace_text.proofs.calls.calls_of.Goals as goal

pub loop-rest-init : goal.loop-rest-init
unfolding calls_in
loop-rest-init c =
    record {
      read = rw (none-said c.args.policies.now c.in_ok-list.list c.in_ok-list.ensures.empty, c.in_ok-rest.ensures.exact) refl;
      list = c.in_ok-list.ensures.list c.args.workers c.args.policies.now;
      line = omega (arith, ap length c.in_ok-list.ensures.empty);
      few = omega (arith, ap length c.in_ok-list.ensures.empty);
    }

pub returns-in_default-clause-exact : goal.returns-in_default-clause-exact
returns-in_default-clause-exact c =
    let says = call_says c.args.workers (map policy_of c.args.policies.now) in
    lines_from-odd says (list_said c.args.policies.now c.loop-rest.list) c.loop-rest.line (pieces c.loop-rest.rest.now)
    (calls_in c.args.workers (map policy_of c.args.policies.now) c.args.first (pieces c.args.bytes.now)) c.in_default.ensures.text c.loop-rest.invariant.read

pub returns-in_err-call-clause-exact : goal.returns-in_err-call-clause-exact
returns-in_err-call-clause-exact c =
    let says = call_says c.args.workers (map policy_of c.args.policies.now) in
    let p = err_from_is_err_and c.from_residual-in_err-call.result c.from_residual-in_err-call.ensures.1 in
    rw (p.1, p.2) (lines_from-bad says (list_said c.args.policies.now c.loop-rest.list) c.loop-rest.line (pieces c.loop-rest.rest.now) (pieces c.in-Some.after.now) c.in-Some.text.now c.in_err-call.field-0.0
    (calls_in c.args.workers (map policy_of c.args.policies.now) c.args.first (pieces c.args.bytes.now)) c.in-Some.ensures.text c.in_err-call.ensures.exact c.loop-rest.invariant.read)

pub loop-rest-preserved : goal.loop-rest-preserved
loop-rest-preserved c =
    let says = call_says c.args.workers (map policy_of c.args.policies.now) in
    let more = lines_from-more says (list_said c.args.policies.now c.loop-rest.list) c.loop-rest.line (pieces c.loop-rest.rest.now) (pieces c.in-Some.after.now) c.in-Some.text.now (call_said c.in_ok-call.call)
    (calls_in c.args.workers (map policy_of c.args.policies.now) c.args.first (pieces c.args.bytes.now)) c.in-Some.ensures.text c.in_ok-call.ensures.exact c.loop-rest.invariant.read in
    let long = length-more c.args.policies.now c.loop-rest.list c.push.new.self (call_said c.in_ok-call.call) c.in_ok-push.ensures.said in
    record {
      read = rw c.in_ok-push.ensures.said more;
      list = c.in_ok-push.ensures.list;
      line = omega (arith, long, c.loop-rest.invariant.line);
      few = omega (arith, long, c.in_ok-call.ensures.room);
    }

pub returns-clause-exact : goal.returns-clause-exact
returns-clause-exact c =
    let says = call_says c.args.workers (map policy_of c.args.policies.now) in
    let none : length c.loop-rest.rest.now ≡ 0 = grind (arith, common_steps) in
    let done = lines_from-done says (list_said c.args.policies.now c.loop-rest.list) c.loop-rest.line (pieces c.loop-rest.rest.now) (calls_in c.args.workers (map policy_of c.args.policies.now) c.args.first (pieces c.args.bytes.now)) (pieces-none c.loop-rest.rest.now none) c.loop-rest.invariant.read in
    rw c.in_ok-finish.ensures.said done
