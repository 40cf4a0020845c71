-- A handle whose ticket is lent.
use Rattle.std.specs.Prelude.{[], ◌∷◌}
use Rattle.std.specs.Borrow.{Lends, MutBor, Fml}
use Rattle.shfl_seats.specs.Tickets.{TicketModel}
use Rattle.shfl_seats.specs.contracts.ticket.SeatTicket as ticket
use Rattle.shfl_seats_c.specs.declared.handle.ShflSeat.{ShflSeat}
use Rattle.shfl_seats_c.specs.contracts.handle.ShflSeat.{the_row}

-- the handle, owning this ticket
abbrev pub with_ticket : ShflSeat → TicketModel → ShflSeat
with_ticket it t = record { at = it.at; alloc = it.alloc; tickets = t ∷ [] }

-- once r ends the handle owns the last value behind it
abbrev pub LendsTicket : MutBor ShflSeat → MutBor TicketModel → Fml
LendsTicket s r = Lends the_row ticket.the_row s r (with_ticket s.now)
