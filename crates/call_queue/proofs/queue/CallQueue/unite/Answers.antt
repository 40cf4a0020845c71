use Rattle.std.proofs.Common.{◌+◌, ◌<◌, ◌++◌, ◌||◌, ap, ◌∙◌, sym, subst, arith}
use Rattle.crossbeam_queue.specs.Passes.{view}
use Rattle.call_queue.specs.declared.rule.Share.{Share}
use Rattle.call_queue.specs.Queues.{TakerModel}
use Rattle.call_queue.specs.Tickets.{bare, calls_in, has_end, AreWhole}
use Rattle.call_queue.proofs.Moves.{merges}
use Rattle.call_queue.proofs.Filled.{calls_in-append, has_end-append}
use Rattle.call_queue.proofs.queue.CallQueue.unite.Goals as goal

pub absorb-requires-clause-rule : goal.absorb-requires-clause-rule
absorb-requires-clause-rule g c = merges _ _ _ _ c.taker.invariant.1

pub invariant_of-taker : goal.invariant_of-taker
invariant_of-taker g c = let e = c.absorb.ensures.rule in let p = c.absorb.ensures.queue in let v = c.taker.invariant in let w = c.other.invariant in
    let mine = view c.taker.inside.pass in let theirs = view c.other.inside.pass in (
      p.2 ∙ v.0,
      subst (λ (h : Share _). 0 < h.parts) (sym e) (let some = v.1 in let z : 0 < mine.parts + theirs.parts = omega arith in z),
      subst AreWhole (sym (ap (λ (h : Share _). h.all) e)) v.2,
      (λ j. v.3 j || w.3 j) ∙ sym (ap (λ (h : Share _). has_end h.taken) e ∙ has_end-append mine.taken theirs.taken),
    )

pub returns : goal.returns
returns g c = let e = c.absorb.ensures.rule in let p = c.absorb.ensures.queue in let m = c.taker.view_is in let t = c.other.view_is in
    let mine = view c.taker.inside.pass in let theirs = view c.other.inside.pass in
    let queue = p.0 ∙ ap (λ (x : TakerModel _). x.queue) m in
    let calls = ap (λ (h : Share _). bare (calls_in h.all)) e ∙ ap (λ (x : TakerModel _). x.calls) m in
    let parts = ap (λ (h : Share _). h.parts) e ∙ (λ j. (m j).parts + (t j).parts) in
    let taken = ap (λ (h : Share _). calls_in h.taken) e ∙ (calls_in-append mine.taken theirs.taken ∙ (λ j. (m j).taken ++ (t j).taken)) in
    λ j. record { queue = queue j; calls = calls j; parts = parts j; taken = taken j; ended = (m j).ended || (t j).ended }
