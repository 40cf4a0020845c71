use Rattle.std.proofs.Common.{true, [], ap, ◌∙◌, sym, arith, length, take, length-take-le, Some}
use Rattle.call_queue.specs.Rule.{with_pushed, share, whole}
use Rattle.call_queue.specs.declared.rule.Share.{Share}
use Rattle.call_queue.proofs.Filled.{next_call, length-calls_from}
use Rattle.call_queue.proofs.opening.push_calls.Goals as goal

pub push_one-requires-clause-place : goal.push_one-requires-clause-place
push_one-requires-clause-place g c = let below = c.loop-at-test.true in
    sym (ap (λ (h : Share _). length h.all) c.loop-at.invariant.3
    ∙ (length-calls_from 0 (take c.loop-at.at c.args.calls.now) ∙ length-take-le c.loop-at.at c.args.calls.now (omega arith)))

pub loop-at-preserved : goal.loop-at-preserved
loop-at-preserved g c = let i = c.loop-at.invariant in let p = c.push_one.ensures.pass in let e = c.push_one.ensures.pushed c.if-not-push_one.false in
    let item = c.index-calls-at in (
      p.0 ∙ i.0,
      p.1 ∙ i.1,
      p.2 ∙ i.2,
      e ∙ (ap (λ (h : Share _). with_pushed h (record { at = c.loop-at.at; call = Some item.result })) i.3
          ∙ ap (λ l. share whole true l []) (sym (next_call c.args.calls.now c.loop-at.at item.result c.loop-at-test.true item.is))),
    )
