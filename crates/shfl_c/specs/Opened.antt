-- Handles that were just opened.
use Rattle.std.specs.Prelude.{◌≡◌, ℕ, List, [], ◌∷◌, map}
use Rattle.shfl_core.specs.declared.phase.Rules.{Rules}
use Rattle.shfl_ticket.specs.Tickets.{TicketModel, AreOpened}
use Rattle.shfl_c.specs.declared.handle.ShflPass.{ShflPass}

abbrev pub tickets_of : List ShflPass → List (List TicketModel)
tickets_of = map (λ h. h.tickets)

-- the handles own the passes of one lock that was just opened, one each, in order
pub record HoldPasses (rules : Rules) (words : List ℕ) (handles : List ShflPass) : Type 0 where
  pub tickets : List TicketModel
  pub opened : AreOpened rules words tickets
  pub each : tickets_of handles ≡ map (λ t. t ∷ []) tickets
