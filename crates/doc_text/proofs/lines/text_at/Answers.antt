use Rattle.std.proofs.Common.{◌≡◌, ◌+◌, ◌-◌, get_or, drop, length, false, sym, ◌∙◌, add-one, arith}
use Rattle.std.proofs.lemmas.List.{take_all, length-drop}
use Rattle.doc_text.specs.Text.{is_plain}
use Rattle.doc_text.proofs.LineEnds.{odd_front, unended_front, text_front}
use Rattle.doc_text.proofs.lines.text_at.Goals as goal

pub returns-then-b-ne10-clause-text : goal.returns-then-b-ne10-clause-text
returns-then-b-ne10-clause-text c =
    let bytes = c.args.bytes.now in
    let odd : is_plain (get_or bytes c.loop-i.i 0) ≡ false = sym c.is_plain.ensures ∙ c.if-not-is_plain.true in
    odd_front bytes c.loop-i.i (omega arith) c.loop-i.invariant odd c.if-b-ne10.true

pub returns-then-not-is_plain-clause-text : goal.returns-then-not-is_plain-clause-text
returns-then-not-is_plain-clause-text c =
    let bytes = c.args.bytes.now in
    let all = take_all (length bytes - (c.loop-i.i + 1)) (drop (c.loop-i.i + 1) bytes) (omega (arith, length-drop (c.loop-i.i + 1) bytes)) in
    rw (all, add-one) (text_front bytes c.loop-i.i (omega arith) c.loop-i.invariant c.if-b-ne10.false)

pub returns-clause-text : goal.returns-clause-text
returns-clause-text c = unended_front c.args.bytes.now c.requires (λ k h. c.loop-i.invariant k (omega arith))
