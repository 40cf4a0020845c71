-- What a commit at the journal tells of the pass that made it, and of what lies behind its locks.
use Rattle.std.proofs.Common.{◌≡◌, ℕ, ◌+◌, List, [], ◌∷◌, ◌++◌, length, refl, sym, ap, ◌∙◌, subst, arith, length-append}
use Rattle.dir_table.specs.declared.calls.DirCall.{DirCall}
use Rattle.dir_table.specs.declared.calls.DirReply.{DirReply}
use Rattle.shared_journal.specs.Entries.{StartsWith}
use Rattle.shared_journal.specs.Models.{PassModel, CommitsEntry}
use Rattle.shard_rows.specs.Replay.{DirEntry, opening, entry_by, IsLegal}
use Rattle.shard_rows.specs.Values.{JournalValue, ShardValue, IsUpTo, caught_up}
use Rattle.shard_rows.proofs.ByNumbers.{legal_numbers}
use Rattle.shard_rows.proofs.UpTo.{up_to_all, up_to_longer}
use Rattle.dir_shards.specs.Commits.{Enters, GoesOn, calls_by}
use Rattle.dir_shards.specs.KeptShards.{shard_after}
use Rattle.dir_shards.proofs.Places.{snoc_same}

-- the entry that a commit added is the call's
pub goes_on : (room place : ℕ) (old new : PassModel DirEntry) (call : DirCall) (reply : DirReply) (before after : JournalValue)
    → CommitsEntry (λ e. e.worker) old place new → Enters old.number call reply before after → length before.entries ≡ place → after.entries ≡ new.seen
    → IsLegal (opening room) new.seen → GoesOn room old.seen (entry_by old.number call reply place) new.seen
goes_on room place old new call reply before after commits enters long all legal =
    let parts = snoc_same commits.before before.entries commits.entry (entry_by old.number call reply (length before.entries))
    (sym commits.seen ∙ sym all ∙ ap (λ (j : JournalValue). j.entries) enters.entered) in
    let entry : commits.entry ≡ entry_by old.number call reply place = parts.1 ∙ ap (entry_by old.number call reply) long in
    record {
      between = commits.goes_on.0;
      seen = commits.seen ∙ (λ i. commits.goes_on.1 i ++ entry i ∷ []);
      place = commits.place_is ∙ ap length commits.goes_on.1;
      legal = record { legal = legal; history = legal_numbers (opening room) new.seen legal };
      own = commits.own ∙ ap (λ e. calls_by old.number old.seen ++ e ∷ []) entry;
    }

-- names after a beginning of the journal are so far up to date
pub up_to_start : (total list : List DirEntry) (room dir : ℕ) (shard : ShardValue) → StartsWith total list → shard ≡ shard_after room dir list → IsUpTo total shard
up_to_start total list room dir shard starts is =
    subst (λ es. IsUpTo es shard) (sym starts.1)
    (up_to_longer list starts.0 shard (subst (IsUpTo list) (sym is) (up_to_all list (shard_after room dir list))))

-- names that were brought forward are those after all entries
pub caught_is : (entries : List DirEntry) (old new : ShardValue) → new ≡ caught_up entries old → new ≡ shard_after new.room new.dir entries
caught_is entries old new is = is ∙ (λ i. shard_after (sym is i).room (sym is i).dir entries)
