use Rattle.std.proofs.Common.{Option, ap, ◌≡◌, [], length, map, Ok, arith, ◌∙◌}
use Rattle.std.specs.Option.{option_map}
use Rattle.std.proofs.lemmas.Grind.{common_steps}
use Rattle.std.proofs.lemmas.Result.{err_from_is_err_and}
use Rattle.doc_text.specs.Text.{pieces}
use Rattle.doc_text.specs.Faults.{section_from}
use Rattle.doc_text.proofs.LineEnds.{pieces-none}
use Rattle.doc_text.proofs.Loops.{section_from-more, section_from-odd, section_from-bad, section_from-end, section_from-none}
use Rattle.line_picture.specs.declared.report.Row.{Row}
use Rattle.line_picture.specs.Reports.{row_said}
use Rattle.line_picture.specs.Grammar.{row_says, rows_in}
use Rattle.line_picture.proofs.Reading.{one_more}
use Rattle.line_picture.proofs.read.rows_of.Goals as goal

pub returns-in_default-clause-exact : goal.returns-in_default-clause-exact
unfolding rows_in
returns-in_default-clause-exact c =
    let says = row_says c.args.form c.args.passes in
    section_from-odd says (λ _. 4) (map row_said c.loop-rest.rows.items) c.loop-rest.line (pieces c.loop-rest.rest.now)
    (section_from says (λ _. 4) [] 2 (pieces c.args.bytes.now)) c.in_default.ensures.text c.loop-rest.invariant.read

pub returns-in_err-row-clause-exact : goal.returns-in_err-row-clause-exact
unfolding rows_in
returns-in_err-row-clause-exact c =
    let says = row_says c.args.form c.args.passes in
    let p = err_from_is_err_and c.from_residual.result c.from_residual.ensures.1 in
    let bad = section_from-bad says (λ _. 4) (map row_said c.loop-rest.rows.items) c.loop-rest.line (pieces c.loop-rest.rest.now) (pieces c.in-Some.after.now) c.in-Some.text.now c.in_err-row.field-0.0
    (section_from says (λ _. 4) [] 2 (pieces c.args.bytes.now)) c.in-Some.ensures.text (rw (← c.as_slice.ensures.value) c.in_err-row.ensures.exact) c.loop-rest.invariant.read in
    rw (p.1, p.2) bad

pub returns-in-None-clause-exact : goal.returns-in-None-clause-exact
unfolding rows_in
returns-in-None-clause-exact c =
    let says = row_says c.args.form c.args.passes in
    section_from-end says (λ _. 4) (map row_said c.loop-rest.rows.items) c.loop-rest.line (pieces c.loop-rest.rest.now) (pieces c.in-Some.after.now) c.in-Some.text.now
    (section_from says (λ _. 4) [] 2 (pieces c.args.bytes.now)) c.in-Some.ensures.text (rw (← c.as_slice.ensures.value) (c.in_ok-row.ensures.exact ∙ ap (λ (o : Option Row). Ok (option_map row_said o)) c.in-None.is)) c.loop-rest.invariant.read

pub loop-rest-preserved : goal.loop-rest-preserved
loop-rest-preserved c =
    let says = row_says c.args.form c.args.passes in
    let more = section_from-more says (λ _. 4) (map row_said c.loop-rest.rows.items) c.loop-rest.line (pieces c.loop-rest.rest.now) (pieces c.in-Some.after.now) c.in-Some.text.now (row_said c.in-Some-2.row)
    (section_from says (λ _. 4) [] 2 (pieces c.args.bytes.now)) c.in-Some.ensures.text (rw (← c.as_slice.ensures.value) (c.in_ok-row.ensures.exact ∙ ap (λ (o : Option Row). Ok (option_map row_said o)) c.in-Some-2.is)) c.loop-rest.invariant.read in
    let room = rw c.in-Some-2.is at c.in_ok-row.ensures.room in
    record {
      read = rw (c.in_ok-push-in-Some-2.ensures.items, one_more row_said c.loop-rest.rows.items c.in-Some-2.row) more;
      line = omega (arith, c.in_ok-push-in-Some-2.ensures.len);
      few = omega (arith, c.in_ok-push-in-Some-2.ensures.len, room, c.as_slice.ensures.len);
    }

pub returns-clause-exact : goal.returns-clause-exact
unfolding rows_in
returns-clause-exact c =
    let says = row_says c.args.form c.args.passes in
    let none : length c.loop-rest.rest.now ≡ 0 = grind (arith, common_steps) in
    section_from-none says (λ _. 4) (map row_said c.loop-rest.rows.items) c.loop-rest.line (pieces c.loop-rest.rest.now) (section_from says (λ _. 4) [] 2 (pieces c.args.bytes.now))
    (pieces-none c.loop-rest.rest.now none) c.loop-rest.invariant.read
