use Rattle.std.proofs.Common.{◌≡◌, ◌++◌, length, ap, ◌∙◌, sym, refl, subst}
use Rattle.crossbeam_queue.specs.Passes.{view, Pass}
use Rattle.call_queue.specs.declared.rule.Ticket.{Ticket}
use Rattle.call_queue.specs.declared.rule.Share.{Share}
use Rattle.call_queue.specs.Tickets.{bare, calls_in, ends_in, calls_from, ends_from, tickets_of, AreWhole}
use Rattle.call_queue.proofs.Moves.{begins}
use Rattle.call_queue.proofs.Filled.{length-calls_from, tickets-whole, bare-tickets_of, ends-tickets_of}
use Rattle.call_queue.proofs.queue.CallQueue.open.Goals as goal

pub ruled-requires-clause-rule : goal.ruled-requires-clause-rule
ruled-requires-clause-rule g c = begins

pub push_ends-requires-clause-filled : goal.push_ends-requires-clause-filled
push_ends-requires-clause-filled g c = (calls_from 0 c.args.calls.now, length-calls_from 0 c.args.calls.now, c.push_calls.ensures.full c.if-not-push_calls.false)

pub deal-requires-clause-whole : goal.deal-requires-clause-whole
deal-requires-clause-whole g c =
    let all : (view c.push_ends.new.pass).all ≡ tickets_of c.args.calls.now c.args.takers = ap (λ (h : Share _). h.all) (c.push_ends.ensures.full c.if-not-push_ends.false)
    ∙ ap (λ (h : Share _). h.all ++ ends_from (length c.args.calls.now) c.args.takers) (c.push_calls.ensures.full c.if-not-push_calls.false) in
    subst AreWhole (sym all) (tickets-whole c.args.calls.now c.args.takers)

pub returns-clause-queue : goal.returns-clause-queue
returns-clause-queue g c =
    let all : (view c.push_ends.new.pass).all ≡ tickets_of c.args.calls.now c.args.takers = ap (λ (h : Share _). h.all) (c.push_ends.ensures.full c.if-not-push_ends.false)
    ∙ ap (λ (h : Share _). h.all ++ ends_from (length c.args.calls.now) c.args.takers) (c.push_calls.ensures.full c.if-not-push_calls.false) in
    (ap (λ (p : Pass (Ticket _) (Share _)). bare (calls_in (view p).all)) c.of-filled.ensures ∙ (ap (λ l. bare (calls_in l)) all ∙ bare-tickets_of c.args.calls.now c.args.takers), refl)

pub returns-clause-ends : goal.returns-clause-ends
returns-clause-ends g c =
    let all : (view c.push_ends.new.pass).all ≡ tickets_of c.args.calls.now c.args.takers = ap (λ (h : Share _). h.all) (c.push_ends.ensures.full c.if-not-push_ends.false)
    ∙ ap (λ (h : Share _). h.all ++ ends_from (length c.args.calls.now) c.args.takers) (c.push_calls.ensures.full c.if-not-push_calls.false) in
    ap (λ (p : Pass (Ticket _) (Share _)). ends_in (view p).all) c.of-filled.ensures ∙ (ap ends_in all ∙ ends-tickets_of c.args.calls.now c.args.takers)
