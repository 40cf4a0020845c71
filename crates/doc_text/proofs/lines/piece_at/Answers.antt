use Rattle.std.proofs.Common.{length, add-one, arith}
use Rattle.std.proofs.lemmas.List.{take_all, drop_all}
use Rattle.doc_text.proofs.LineEnds.{pieces_at, pieces_all}
use Rattle.doc_text.proofs.lines.piece_at.Goals as goal

pub returns-then-b-eq10-clause-first : goal.returns-then-b-eq10-clause-first
returns-then-b-eq10-clause-first c =
    rw (c.split_at.ensures.front, c.split_at.ensures.back, add-one) (pieces_at c.args.bytes.now c.loop-i.i (omega arith) c.loop-i.invariant c.if-b-eq10.true)

pub returns-clause-first : goal.returns-clause-first
returns-clause-first c =
    let bytes = c.args.bytes.now in
    let front = take_all (length bytes) bytes (omega arith) in
    let back = drop_all (length bytes) bytes (omega arith) in
    rw (c.split_at-2.ensures.front, c.split_at-2.ensures.back, front, back) (pieces_all bytes c.requires (λ k h. c.loop-i.invariant k (omega arith)))
