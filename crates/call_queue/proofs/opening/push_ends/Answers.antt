use Rattle.std.proofs.Common.{◌≡◌, ◌+◌, ◌++◌, true, [], ap, ◌∙◌, sym, arith, length, length-append, None}
use Rattle.crossbeam_queue.specs.Passes.{view}
use Rattle.call_queue.specs.Rule.{with_pushed, share, whole}
use Rattle.call_queue.specs.Tickets.{ends_from}
use Rattle.call_queue.specs.declared.rule.Share.{Share}
use Rattle.call_queue.proofs.Filled.{next_end, length-ends_from}
use Rattle.call_queue.proofs.opening.push_ends.Goals as goal

pub push_one-requires-clause-place : goal.push_one-requires-clause-place
push_one-requires-clause-place g c = let i = c.loop-end.invariant in let f = c.requires.filled in let all = (view c.args.pass.now).all in let ends = ends_from c.args.calls c.loop-end.end in
    let now : length (view c.loop-end.pass).all ≡ length (all ++ ends) = ap (λ (h : Share _). length h.all) i.3 in
    let split : length (all ++ ends) ≡ length all + length ends = length-append all ends in
    let long : length ends ≡ c.loop-end.end = length-ends_from _ c.args.calls c.loop-end.end in
    let old : length all ≡ c.args.calls = ap (λ (h : Share _). length h.all) f.2 ∙ f.1 in omega arith

pub loop-end-preserved : goal.loop-end-preserved
loop-end-preserved g c = let i = c.loop-end.invariant in let p = c.push_one.ensures.pass in let e = c.push_one.ensures.pushed c.if-not-push_one.false in (
  p.0 ∙ i.0,
  p.1 ∙ i.1,
  p.2 ∙ i.2,
  e ∙ (ap (λ (h : Share _). with_pushed h (record { at = c.args.calls + c.loop-end.end; call = None })) i.3
      ∙ ap (λ l. share whole true l []) (sym (next_end (view c.args.pass.now).all c.args.calls c.loop-end.end))),
)
