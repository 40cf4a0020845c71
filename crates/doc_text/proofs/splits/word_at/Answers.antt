use Rattle.std.proofs.Common.{◌-◌, ◌+◌, drop, length, add-one, arith}
use Rattle.std.proofs.lemmas.List.{take_all, length-drop}
use Rattle.doc_text.proofs.Splitting.{words_at, words_none, text_at}
use Rattle.doc_text.proofs.Joining.{no_blank-take, no_blank-all}
use Rattle.doc_text.proofs.splits.word_at.Goals as goal

pub returns-then-b-eq32-clause-parts : goal.returns-then-b-eq32-clause-parts
returns-then-b-eq32-clause-parts c =
    let text = c.args.text.now in
    let rest = drop (c.loop-i.i + 1) text in
    let all = take_all (length text - (c.loop-i.i + 1)) rest (omega (arith, length-drop (c.loop-i.i + 1) text)) in
    rw (all, add-one) (words_at text c.loop-i.i (omega arith) c.loop-i.invariant c.if-b-eq32.true)

pub returns-then-b-eq32-clause-whole : goal.returns-then-b-eq32-clause-whole
returns-then-b-eq32-clause-whole c =
    let text = c.args.text.now in
    let rest = drop (c.loop-i.i + 1) text in
    let all = take_all (length text - (c.loop-i.i + 1)) rest (omega (arith, length-drop (c.loop-i.i + 1) text)) in
    rw (all, add-one) (text_at text c.loop-i.i (omega arith) c.if-b-eq32.true)

pub returns-then-b-eq32-clause-no_blank : goal.returns-then-b-eq32-clause-no_blank
returns-then-b-eq32-clause-no_blank c = no_blank-take c.args.text.now c.loop-i.i (omega arith) c.loop-i.invariant

pub returns-clause-parts : goal.returns-clause-parts
returns-clause-parts c = words_none c.args.text.now (λ k h. c.loop-i.invariant k (omega arith))

pub returns-clause-no_blank : goal.returns-clause-no_blank
returns-clause-no_blank c = no_blank-all c.args.text.now (λ k h. c.loop-i.invariant k (omega arith))
