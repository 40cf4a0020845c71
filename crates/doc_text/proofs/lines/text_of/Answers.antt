use Rattle.std.proofs.Common.{◌≡◌, get_or, false, sym, ◌∙◌, arith}
use Rattle.doc_text.specs.Text.{is_plain}
use Rattle.doc_text.proofs.LineEnds.{text_unended, text_plain, text_odd}
use Rattle.doc_text.proofs.lines.text_of.Goals as goal

pub returns-then-last-ne10 : goal.returns-then-last-ne10
returns-then-last-ne10 c = rw (c.in_ok-last.ensures.cases.0) (text_unended c.in_ok-last.front.now c.in_ok-last.last.now c.if-last-ne10.true)

pub returns-then-not-is_plain : goal.returns-then-not-is_plain
returns-then-not-is_plain c =
    let odd : is_plain (get_or c.in_ok-last.front.now c.loop-b.b-index 0) ≡ false = sym c.is_plain.ensures ∙ c.if-not-is_plain.true in
    rw (c.in_ok-last.ensures.cases.0, c.if-last-ne10.false) (text_odd c.in_ok-last.front.now c.loop-b.b-index (omega arith) odd)

pub returns : goal.returns
returns c = rw (c.in_ok-last.ensures.cases.0, c.if-last-ne10.false) (text_plain c.in_ok-last.front.now (λ k h. c.loop-b.invariant k (omega arith)))
