-- What a ticket's handle owns.
use Rattle.std.specs.Prelude.{List}
use base.Fml.{Fml}
use base.Stored.{Coded, coded_list}
use denote.RawPtr.{Ptr}
use Rattle.std.specs.Global.{Global}
use Rattle.std.specs.contracts.impls.GlobalAllocator.TheImpl.{ghosts}
use Rattle.boxed_handle.specs.Handles.{handle_owns}
use Rattle.shfl_seats.specs.contracts.ticket.SeatTicket.{the_row}
use Rattle.shfl_seats.specs.Tickets.{TicketModel}

abbrev pub ticket_owned : Global → Ptr → List TicketModel → Fml
ticket_owned alloc = handle_owns (ghosts.dealloc_token alloc) the_row

abbrev pub tickets_coded : Coded (List TicketModel)
tickets_coded = coded_list the_row.coded
