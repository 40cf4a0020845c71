-- A sharded directory may be looked at by any thread.
use Rattle.std.proofs.Crossing.{crosses}
use denote.RattleType.{RattleType}
use denote.Param.Send.{IsSend, IsSync, part_keyless, sendable}
use Rattle.atomic_table.specs.contracts.shared.Seat.{the_row}
use Rattle.atomic_table.proofs.shared.Seat.TheSendSync as seat
use Rattle.atomic_table.proofs.shared.Shared.TheSendSync as shared
use Rattle.atomic_table.proofs.send_lease.SendLease.TheSendSync as lease
use Rattle.shard_rows.specs.contracts.shard.Shard as shard
use Rattle.dir_shards.specs.contracts.dir_journal.DirJournal as journal
use Rattle.dir_shards.specs.contracts.kept_shard.KeptShard as kept
use Rattle.dir_shards.specs.contracts.sharded.ShardedDir as sharded

-- a seat that is lent says the same to every thread
pub seat_sync : (S V : RattleType) → IsSend S → IsSync (the_row S V)
seat_sync S V s = record { shared = λ d b o ν q. part_keyless (the_row S V) (seat.the_send S V s) q d b o }

shard_send : IsSend shard.the_row
shard_send = search (sendable, crosses) depth 60

shard_sync : IsSync shard.the_row
shard_sync = search (sendable, crosses) depth 60

journal_send : IsSend journal.the_row
journal_send = search (sendable, crosses) depth 60

kept_send : IsSend kept.the_row
kept_send = search (sendable, crosses, shard_send, journal_send, seat.the_send) depth 60

kept_sync : IsSync kept.the_row
kept_sync = search (sendable, crosses, shard_sync, journal_send, seat_sync) depth 60

-- so may be the directory
pub dir_sync : IsSync sharded.the_row
dir_sync = search (sendable, crosses, shard_sync, journal_send, kept_send, kept_sync, shared.the_sync, lease.the_sync) depth 60 fits 20000
