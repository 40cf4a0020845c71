-- What may go to another thread, and be looked at by one: a directory, and the parts of a pool of calls on one.
use Rattle.std.proofs.Crossing.{crosses}
use denote.Param.Send.{IsSend, IsSync, sendable}
use Rattle.atomic_table.proofs.shared.Shared.TheSendSync as shared
use Rattle.atomic_table.proofs.send_lease.SendLease.TheSendSync as lease
use Rattle.dir_table.specs.contracts.dir.Dir as dir
use Rattle.dir_table.specs.contracts.calls.DirCall as call
use Rattle.dir_table.specs.contracts.calls.DirReply as reply
use Rattle.hist_log.specs.contracts.numbered.Numbered as numbered
use Rattle.hist_log.specs.contracts.numbered.NumberedCall as numbered_call
use Rattle.shfl_table.specs.contracts.book.Book as book
use Rattle.shfl_cell.specs.contracts.cell.ShflCellOf as cell
use Rattle.call_queue.specs.contracts.queue.CallQueue as queue

pub dir_send : IsSend dir.the_row
dir_send = search (sendable, crosses) depth 60

pub dir_sync : IsSync dir.the_row
dir_sync = search (sendable, crosses) depth 60

book_send : (g : _) (h : _) → IsSend (book.the_row (numbered.the_row dir.the_row call.the_row reply.the_row) (numbered_call.the_row call.the_row) reply.the_row g h)
book_send g h = search (sendable, crosses, dir_send) depth 60

book_sync : (g : _) (h : _) → IsSync (book.the_row (numbered.the_row dir.the_row call.the_row reply.the_row) (numbered_call.the_row call.the_row) reply.the_row g h)
book_sync g h = search (sendable, crosses, dir_sync) depth 60

pub cell_sync : (g : _) (h : _) (k : _) → IsSync (cell.the_row (book.the_row (numbered.the_row dir.the_row call.the_row reply.the_row) (numbered_call.the_row call.the_row) reply.the_row g h) k)
cell_sync g h k = search (sendable, crosses, book_send, book_sync, shared.the_sync, lease.the_sync) depth 60 fits 20000

pub queue_sync : (k : _) → IsSync (queue.the_row call.the_row k)
queue_sync k = search (sendable, crosses, shared.the_sync, lease.the_sync) depth 60 fits 20000
