use Rattle.std.proofs.Common.{Option, ap, refl, ◌≡◌, [], length, Ok, arith, sym, ◌∙◌}
use Rattle.std.proofs.lemmas.Grind.{common_steps}
use Rattle.std.proofs.lemmas.Result.{err_from_is_err_and}
use Rattle.doc_text.specs.Text.{pieces}
use Rattle.doc_text.specs.Faults.{section_from}
use Rattle.doc_text.proofs.LineEnds.{pieces-none}
use Rattle.doc_text.proofs.Loops.{section_from-more, section_from-odd, section_from-bad, section_from-end, section_from-none}
use Rattle.shfl_line.specs.declared.words.Attr.{Attr}
use Rattle.policy_text.specs.Sections.{attr_says, short_of, attrs_in}
use Rattle.policy_text.proofs.Chains.{ok_some}
use Rattle.policy_text.proofs.sections.attrs_of.Goals as goal

pub returns-in_default-clause-exact : goal.returns-in_default-clause-exact
unfolding attrs_in
returns-in_default-clause-exact c =
    let says = attr_says c.args.section.now in
    let short = short_of c.args.section.now in
    section_from-odd says short c.loop-rest.attrs.items c.loop-rest.line (pieces c.loop-rest.rest.now)
    (section_from says short [] c.args.first (pieces c.args.bytes.now)) c.in_default.ensures.text c.loop-rest.invariant.read

pub returns-in_err-attr-clause-exact : goal.returns-in_err-attr-clause-exact
unfolding attrs_in
returns-in_err-attr-clause-exact c =
    let says = attr_says c.args.section.now in
    let short = short_of c.args.section.now in
    let p = err_from_is_err_and c.from_residual.result c.from_residual.ensures.1 in
    let bad = section_from-bad says short c.loop-rest.attrs.items c.loop-rest.line (pieces c.loop-rest.rest.now) (pieces c.in-Some.after.now) c.in-Some.text.now c.in_err-attr.field-0.0
    (section_from says short [] c.args.first (pieces c.args.bytes.now)) c.in-Some.ensures.text (rw (← c.as_slice.ensures.value) (sym c.attr_says.ensures.exact ∙ c.in_err-attr.was)) c.loop-rest.invariant.read in
    rw (p.1, p.2) bad

pub returns-in-None-clause-exact : goal.returns-in-None-clause-exact
unfolding attrs_in
returns-in-None-clause-exact c =
    let says = attr_says c.args.section.now in
    let short = short_of c.args.section.now in
    section_from-end says short c.loop-rest.attrs.items c.loop-rest.line (pieces c.loop-rest.rest.now) (pieces c.in-Some.after.now) c.in-Some.text.now
    (section_from says short [] c.args.first (pieces c.args.bytes.now)) c.in-Some.ensures.text (rw (← c.as_slice.ensures.value) (sym c.attr_says.ensures.exact ∙ c.in_ok-attr.was ∙ ap (λ (o : Option Attr). Ok o) c.in-None.is)) c.loop-rest.invariant.read

pub loop-rest-preserved : goal.loop-rest-preserved
loop-rest-preserved c =
    let says = attr_says c.args.section.now in
    let short = short_of c.args.section.now in
    let more = section_from-more says short c.loop-rest.attrs.items c.loop-rest.line (pieces c.loop-rest.rest.now) (pieces c.in-Some.after.now) c.in-Some.text.now c.in-Some-2.attr
    (section_from says short [] c.args.first (pieces c.args.bytes.now)) c.in-Some.ensures.text (rw (← c.as_slice.ensures.value) (sym c.attr_says.ensures.exact ∙ c.in_ok-attr.was ∙ ap (λ (o : Option Attr). Ok o) c.in-Some-2.is)) c.loop-rest.invariant.read in
    let room = ok_some c.in_ok-attr.field-0 c.in-Some-2.attr c.in-Some-2.is c.in_ok-attr.ensures.room in
    record {
      read = rw c.in_ok-push-in-Some-2.ensures.items more;
      line = omega (arith, c.in_ok-push-in-Some-2.ensures.len);
      few = omega (arith, c.in_ok-push-in-Some-2.ensures.len, room, c.as_slice.ensures.len);
    }

pub returns-clause-exact : goal.returns-clause-exact
unfolding attrs_in
returns-clause-exact c =
    let says = attr_says c.args.section.now in
    let short = short_of c.args.section.now in
    let none : length c.loop-rest.rest.now ≡ 0 = grind (arith, common_steps) in
    let ended = section_from-none says short c.loop-rest.attrs.items c.loop-rest.line (pieces c.loop-rest.rest.now) (section_from says short [] c.args.first (pieces c.args.bytes.now))
    (pieces-none c.loop-rest.rest.now none) c.loop-rest.invariant.read in
    ended ∙ rw (c.short_of.ensures, c.as_slice-2.ensures.value) refl
