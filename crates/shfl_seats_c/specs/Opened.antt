-- Handles of the seats of an arena that was just opened.
use Rattle.std.specs.Prelude.{◌≡◌, ℕ, List, [], ◌∷◌, map}
use Rattle.shfl_core.specs.declared.phase.Rules.{Rules}
use Rattle.shfl_arena.specs.declared.shape.Shape.{Shape}
use Rattle.shfl_seats.specs.Tickets.{TicketModel, AreOpened}
use Rattle.shfl_seats_c.specs.declared.handle.ShflSeat.{ShflSeat}

abbrev pub tickets_of : List ShflSeat → List (List TicketModel)
tickets_of = map (λ h. h.tickets)

-- the handles own the seats of one arena that was just opened, one each, in order
pub record HoldSeats (shape : Shape) (rules : Rules) (threads : ℕ) (handles : List ShflSeat) : Type 0 where
  pub tickets : List TicketModel
  pub opened : AreOpened shape rules threads tickets
  pub each : tickets_of handles ≡ map (λ t. t ∷ []) tickets
