-- A handle may go to another thread, since a ticket may.
use denote.Struct.Struct.{exits_of}
use denote.Struct.Owning.{shape, fields, to}
use denote.Param.Send.{IsSend, AllSend, owning_send, struct_send, sendable}
use Rattle.std.proofs.Crossing as heap
use Rattle.std_alloc.proofs.SendSync.{quiet}
use Rattle.std_heap.proofs.Global.TheSendSync as allocator
use Rattle.std_heap.specs.contracts.GlobalAllocator.TheImpl.{ghosts}
use Rattle.boxed_handle.proofs.Crossing.{owns_keyless}
use Rattle.shfl_seats.specs.contracts.ticket.SeatTicket as ticket
use Rattle.shfl_seats.proofs.ticket.SeatTicket.TheSendSync.{the_send}
use Rattle.shfl_seats_c.specs.contracts.handle.ShflSeat.{the_row, the_type}

pub send : IsSend the_row
send =
    let all : AllSend (fields the_type) = (search sendable, (allocator.the_field_send, tt)) in
    owning_send the_type all (λ d. owns_keyless ticket.the_row the_send ghosts heap.frees d.alloc d.at d.tickets)
    (λ k. quiet (to the_type) (exits_of k (fields the_type)) ((struct_send (shape the_type) all).leaving k))
