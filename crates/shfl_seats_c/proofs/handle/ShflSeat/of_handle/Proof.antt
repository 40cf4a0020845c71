-- `of_handle` moves two fields: the struct for C has what the handle had.
use Rattle.std.proofs.Common.{◌≡◌, refl}
use Rattle.boxed_handle.proofs.AtGlobal.{at_global}
use Rattle.boxed_handle.proofs.Moves.{moved}
use Rattle.boxed_handle.proofs.Words.{Of}
use Rattle.shfl_seats.specs.contracts.ticket.SeatTicket as ticket
use Rattle.shfl_seats_c.specs.contracts.handle.ShflSeat as sealed
use Rattle.shfl_seats_c.specs.contracts.handle.ShflSeat.of_handle.Key.{name as #self}
use Rattle.shfl_seats_c.proofs.handle.ShflSeat.of_handle.Statement.{statement}
use Rattle.shfl_seats_c.proofs.handle.ShflSeat.of_handle.Code as code

pub of_handle_spec : {M : Type 1} → statement M
of_handle_spec 𝓤 𝓛 𝓜 𝓡 wired =
    moved ticket.the_row (Of ticket.the_row at_global) sealed.the_row (λ d. d) (λ d. record { at = d.at; alloc = d.alloc; tickets = d.owned })
    (λ d vs. refl) (λ d vs. refl) (λ d r. r.tickets ≡ d.owned) (λ d. refl) (λ d. tt) (λ d l. refl)
    𝓤 𝓛 𝓜 𝓡 _ _ #self (code.unfolded 𝓤 𝓛.H 𝓜 𝓡 wired)
