-- `into_handle` moves two fields: the handle has what the struct for C had.
use Rattle.std.proofs.Common.{◌≡◌, refl}
use Rattle.boxed_handle.proofs.AtGlobal.{at_global}
use Rattle.boxed_handle.proofs.Moves.{moved}
use Rattle.boxed_handle.proofs.Words.{Of}
use Rattle.shfl_ticket.specs.contracts.ticket.Ticket as ticket
use Rattle.shfl_c.specs.contracts.handle.ShflPass as sealed
use Rattle.shfl_c.specs.contracts.handle.ShflPass.into_handle.Key.{name as #self}
use Rattle.shfl_c.proofs.handle.ShflPass.into_handle.Statement.{statement}
use Rattle.shfl_c.proofs.handle.ShflPass.into_handle.Code as code

pub into_handle_spec : {M : Type 1} → statement M
into_handle_spec 𝓤 𝓛 𝓜 𝓡 wired =
    moved ticket.the_row sealed.the_row (Of ticket.the_row at_global) (λ d. record { at = d.at; alloc = d.alloc; owned = d.tickets }) (λ d. record { at = d.at; alloc = d.alloc; owned = d.tickets })
    (λ d vs. refl) (λ d vs. refl) (λ d r. r.owned ≡ d.tickets) (λ d. refl) (λ d. tt) (λ d l. refl)
    𝓤 𝓛 𝓜 𝓡 _ _ #self (code.unfolded 𝓤 𝓛.H 𝓜 𝓡 wired)
