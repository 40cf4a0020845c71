use Rattle.std.proofs.Common.{◌≡◌, [], length, arith, sym, ◌∙◌}
use Rattle.std.proofs.lemmas.Grind.{common_steps}
use Rattle.std.proofs.lemmas.Result.{err_from_is_err_and}
use Rattle.doc_text.specs.Text.{pieces}
use Rattle.doc_text.specs.Faults.{lines_from}
use Rattle.doc_text.proofs.LineEnds.{pieces-none}
use Rattle.doc_text.proofs.Loops.{lines_from-more, lines_from-odd, lines_from-bad, lines_from-done}
use Rattle.shfl_sched.specs.Grammar.{event_says}
use Rattle.shfl_sched.proofs.events.event_lines.Goals as goal

pub returns-in_default-clause-exact : goal.returns-in_default-clause-exact
returns-in_default-clause-exact c =
    let says = event_says c.args.form c.args.passes in
    lines_from-odd says c.loop-rest.events.items c.loop-rest.line (pieces c.loop-rest.rest.now)
    (lines_from says [] c.args.first (pieces c.args.bytes.now)) c.in_default.ensures.text c.loop-rest.invariant.read

pub returns-in_err-event-clause-exact : goal.returns-in_err-event-clause-exact
returns-in_err-event-clause-exact c =
    let says = event_says c.args.form c.args.passes in
    let p = err_from_is_err_and c.from_residual.result c.from_residual.ensures.1 in
    rw (p.1, p.2) (lines_from-bad says c.loop-rest.events.items c.loop-rest.line (pieces c.loop-rest.rest.now) (pieces c.in-Some.after.now) c.in-Some.text.now c.in_err-event.field-0.0
    (lines_from says [] c.args.first (pieces c.args.bytes.now)) c.in-Some.ensures.text (rw (← c.as_slice.ensures.value) (sym c.event_says.ensures.exact ∙ c.in_err-event.was)) c.loop-rest.invariant.read)

pub loop-rest-preserved : goal.loop-rest-preserved
loop-rest-preserved c =
    let says = event_says c.args.form c.args.passes in
    let more = lines_from-more says c.loop-rest.events.items c.loop-rest.line (pieces c.loop-rest.rest.now) (pieces c.in-Some.after.now) c.in-Some.text.now c.in_ok-event.event
    (lines_from says [] c.args.first (pieces c.args.bytes.now)) c.in-Some.ensures.text (rw (← c.as_slice.ensures.value) (sym c.event_says.ensures.exact ∙ c.in_ok-event.was)) c.loop-rest.invariant.read in
    record {
      read = rw c.in_ok-push.ensures.items more;
      line = omega (arith, c.in_ok-push.ensures.len);
      few = omega (arith, c.in_ok-push.ensures.len, c.in_ok-event.ensures.room, c.as_slice.ensures.len);
    }

pub returns-clause-exact : goal.returns-clause-exact
returns-clause-exact c =
    let says = event_says c.args.form c.args.passes in
    let none : length c.loop-rest.rest.now ≡ 0 = grind (arith, common_steps) in
    lines_from-done says c.loop-rest.events.items c.loop-rest.line (pieces c.loop-rest.rest.now) (lines_from says [] c.args.first (pieces c.args.bytes.now)) (pieces-none c.loop-rest.rest.now none) c.loop-rest.invariant.read
