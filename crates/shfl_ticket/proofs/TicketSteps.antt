-- A step of a pass as a step of its ticket.
use Rattle.std.proofs.Common.{◌≡◌, ap, subst, Bool, [], Option}
use Rattle.shfl_line.specs.declared.words.Attr.{Attr}
use Rattle.shfl_policy.specs.Policies.{PolicyModel}
use Rattle.shfl_table.specs.declared.outcomes.Outcome.{Outcome}
use Rattle.shfl_table.specs.Outcomes.{IsOutcome}
use Rattle.shfl_table.specs.PassModel.{PassModel}
use Rattle.shfl_table.specs.PassSteps.{TakesStep as PassTakesStep}
use Rattle.shfl_ticket.specs.Tickets.{TicketModel, TakesStep, ticket_of}

pub ticket_steps : (p q : PassModel (Unit {0})) (choice : Bool) (attr : Attr) (policy : Option PolicyModel) (t : TicketModel) → ticket_of p attr policy ≡ t
    → PassTakesStep (λ _. []) (λ _. []) p choice q → TakesStep choice t (ticket_of q attr policy)
ticket_steps p q choice attr policy t is r =
    subst (λ (z : TicketModel). TakesStep choice z (ticket_of q attr policy)) is
    (record { found = r.found; form = r.form; attr = r.attr; asks = r.asks; row = ap (λ (m : PassModel (Unit {0})). ticket_of m attr policy) r.row })

-- with what came of it
pub ticket_advances : (p q : PassModel (Unit {0})) (choice : Bool) (attr : Attr) (policy : Option PolicyModel) (t : TicketModel) (outcome : Outcome) → ticket_of p attr policy ≡ t
    → (r : PassTakesStep (λ _. []) (λ _. []) p choice q) → IsOutcome p.own r.found q.own outcome → (s : TakesStep choice t (ticket_of q attr policy)) × IsOutcome t.own s.found q.own outcome
ticket_advances p q choice attr policy t outcome is r came =
    subst (λ (z : TicketModel). (s : TakesStep choice z (ticket_of q attr policy)) × IsOutcome z.own s.found q.own outcome) is
    (record { found = r.found; form = r.form; attr = r.attr; asks = r.asks; row = ap (λ (m : PassModel (Unit {0})). ticket_of m attr policy) r.row }, came)
