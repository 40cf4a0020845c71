use Rattle.std.proofs.Common.{rules, ◌≡◌, true, subst}
use Rattle.shfl_core.specs.Plan as plan
use Rattle.shfl_table.specs.Outcomes.{IsOutcome}
use Rattle.shfl_ticket.specs.Tickets.{TicketModel, TakesStep}
use Rattle.shfl_c.proofs.passes.shfl_advance.Goals as goal

pub returns-clause-row : goal.returns-clause-row
returns-clause-row g c moving = let same : c.deref_mut.result.now ≡ g.x = search rules in
    let r = subst (λ (t : TicketModel). plan.moving t.own ≡ true → (s : TakesStep c.args.choice t c.advance.new.self) × IsOutcome t.own s.found c.advance.new.self.own c.advance.result) same c.advance.ensures.row moving in
    (_, c.new.ensures, (r.0, c.advance.result, r.1, c.outcome_told-outcome.ensures))
