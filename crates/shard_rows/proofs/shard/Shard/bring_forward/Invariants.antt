use Rattle.std.proofs.Common.{◌≡◌, ◌≤◌, length, take}
use Rattle.shard_rows.specs.Replay.{opening, left_by}
use Rattle.shard_rows.specs.Shares.{names_in}
use Rattle.shard_rows.proofs.shard.Shard.bring_forward.Given as goal

abbrev pub invariant-loop-place : goal.invariant-loop-place
invariant-loop-place l =
    (l.self.known ≡ l.place) × (l.self.dir ≡ l.fn.self.dir) × (l.self.room ≡ l.fn.self.room) × (l.place ≤ length l.fn.journal.entries)
    × (l.self.names ≡ names_in (left_by (opening l.fn.self.room) (take l.place l.fn.journal.entries)).names l.fn.self.dir)
