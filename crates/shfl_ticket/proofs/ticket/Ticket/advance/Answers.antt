use Rattle.std.proofs.Common.{sym, ap, ◌∙◌, subst, slice_index}
use Rattle.shfl_core.specs.Plan.{moving}
use Rattle.shfl_line.specs.Words.{attr_of}
use Rattle.shfl_table.specs.Outcomes.{IsOutcome}
use Rattle.shfl_ticket.specs.Tickets.{TakesStep, TicketModel, ticket_of}
use Rattle.shfl_ticket.proofs.TicketSteps.{ticket_advances}
use Rattle.shfl_ticket.proofs.ticket.Ticket.advance.Goals as goal

pub returns-clause-row : goal.returns-clause-row
returns-clause-row c = λ is_moving. let i = c.self.inside in let s = i.share.value in let r = c.advance.ensures.row (ap (λ (t : TicketModel). moving t.own) c.self.view_is ∙ is_moving) in
    subst (λ n. (t : TakesStep c.args.choice c.args.self.now (ticket_of c.advance.new.self (attr_of (slice_index s.words.value.items n)) s.policy)) × IsOutcome c.args.self.now.own t.found c.advance.new.self.own c.advance.result) (sym r.0.number)
    (ticket_advances i.pass c.advance.new.self c.args.choice (attr_of (slice_index s.words.value.items i.pass.own.reg.me)) s.policy c.args.self.now c.advance.result c.self.view_is r.0 r.1)
