use Rattle.std.proofs.Common.{sym, subst, slice_index}
use Rattle.shfl_line.specs.Words.{attr_of}
use Rattle.shfl_ticket.specs.Tickets.{TakesStep, ticket_of}
use Rattle.shfl_ticket.proofs.TicketSteps.{ticket_steps}
use Rattle.shfl_ticket.proofs.ticket.Ticket.step.Goals as goal

pub returns-clause-row : goal.returns-clause-row
returns-clause-row c = λ moved. let i = c.self.inside in let s = i.share.value in let r = c.step.ensures.row moved in
    subst (λ n. TakesStep c.args.choice c.args.self.now (ticket_of c.step.new.self (attr_of (slice_index s.words.value.items n)) s.policy)) (sym r.number)
    (ticket_steps i.pass c.step.new.self c.args.choice (attr_of (slice_index s.words.value.items i.pass.own.reg.me)) s.policy c.args.self.now c.self.view_is r)
