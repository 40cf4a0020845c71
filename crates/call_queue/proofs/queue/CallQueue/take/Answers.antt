use Rattle.std.proofs.Common.{◌<◌, ◌++◌, ◌∷◌, [], All, slice_get, ap, ◌∙◌, subst, sym, refl, append-nil}
use Rattle.crossbeam_queue.specs.Passes.{view}
use Rattle.call_queue.specs.declared.rule.Share.{Share}
use Rattle.call_queue.specs.Queues.{TakerModel}
use Rattle.call_queue.specs.Tickets.{call_at, calls_in, has_end, AreWhole}
use Rattle.call_queue.proofs.Filled.{calls_in-append, no_end_more, end_more, call_of-place, calls-below}
use Rattle.call_queue.proofs.queue.CallQueue.take.Goals as goal

pub invariant_of-taker : goal.invariant_of-taker
invariant_of-taker g c = let v = c.taker.invariant in let w = c.take_one-ticket.ensures.taken in let p = c.take_one-ticket.ensures.pass in (
  p.2 ∙ v.0,
  subst (λ (h : Share _). 0 < h.parts) (sym w.taken) v.1,
  subst AreWhole (sym (ap (λ (h : Share _). h.all) w.taken)) v.2,
  v.3 ∙ sym (ap (λ (h : Share _). has_end h.taken) w.taken ∙ no_end_more (view c.taker.inside.pass).taken c.take_one-ticket.result c.in-Some.call c.in-Some.is),
)

pub invariant_of-taker-in-None : goal.invariant_of-taker-in-None
invariant_of-taker-in-None g c = let v = c.taker.invariant in let w = c.take_one-ticket.ensures.taken in let p = c.take_one-ticket.ensures.pass in (
  p.2 ∙ v.0,
  subst (λ (h : Share _). 0 < h.parts) (sym w.taken) v.1,
  subst AreWhole (sym (ap (λ (h : Share _). h.all) w.taken)) v.2,
  sym (ap (λ (h : Share _). has_end h.taken) w.taken ∙ end_more (view c.taker.inside.pass).taken c.take_one-ticket.result c.in-None.is),
)

pub returns-in-Some-clause-listed : goal.returns-in-Some-clause-listed
returns-in-Some-clause-listed g c = let t = c.take_one-ticket.result in let w = c.take_one-ticket.ensures.taken in
    ap (λ (p : TakerModel _). slice_get p.calls t.at) (sym c.taker.view_is) ∙ call_of-place (view c.taker.inside.pass).all t c.in-Some.call c.taker.invariant.2 w.placed c.in-Some.is

pub returns-in-Some-clause-taken : goal.returns-in-Some-clause-taken
returns-in-Some-clause-taken g c = let t = c.take_one-ticket.result in let before = (view c.taker.inside.pass).taken in
    ap (λ (h : Share _). calls_in h.taken) c.take_one-ticket.ensures.taken.taken
    ∙ (calls_in-append before (t ∷ [])
    ∙ (ap (λ o. calls_in before ++ (call_at t.at o ++ [])) c.in-Some.is
    ∙ ap (λ (p : TakerModel _). p.taken ++ record { at = t.at; call = c.in-Some.call } ∷ []) c.taker.view_is))

pub returns-in-Some-clause-rising : goal.returns-in-Some-clause-rising
returns-in-Some-clause-rising g c = let t = c.take_one-ticket.result in
    subst (λ (p : TakerModel _). All (λ b. b.at < t.at) p.taken) c.taker.view_is (calls-below t.at (view c.taker.inside.pass).taken c.take_one-ticket.ensures.taken.later)

pub returns-in-None-clause-none : goal.returns-in-None-clause-none
returns-in-None-clause-none g c = let t = c.take_one-ticket.result in let before = (view c.taker.inside.pass).taken in λ _. (
  refl,
  ap (λ (h : Share _). calls_in h.taken) c.take_one-ticket.ensures.taken.taken
      ∙ (calls_in-append before (t ∷ [])
      ∙ (ap (λ o. calls_in before ++ (call_at t.at o ++ [])) c.in-None.is
      ∙ (append-nil (calls_in before) ∙ ap (λ (p : TakerModel _). p.taken) c.taker.view_is))),
)
