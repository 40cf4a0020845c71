-- A call that is committed: its entry is put behind the journal's.
use Rattle.std.specs.Prelude.{◌≡◌, ℕ, ◌+◌, ◌<◌, List, [], ◌∷◌, ◌++◌, length}
use Rattle.hist_log.specs.History as history
use Rattle.hist_log.specs.History.{operations}
use Rattle.dir_table.specs.declared.calls.DirCall.{DirCall}
use Rattle.dir_table.specs.declared.calls.DirReply.{DirReply}
use Rattle.dir_table.specs.Meanings.{IsAdmitted, reply_at, state_after}
use Rattle.dir_table.specs.Numbers.{call_numbers, reply_numbers, state_numbers}
use Rattle.shared_journal.specs.Entries.{entries_by}
use Rattle.shared_journal.specs.Models.{PassModel}
use Rattle.shard_rows.specs.Replay.{DirEntry, opening, entry_by, IsLegal}
use Rattle.shard_rows.specs.Values.{JournalValue, ShardValue, IsUpTo}

-- the entries of one pass
abbrev pub calls_by : ℕ → List DirEntry → List DirEntry
calls_by = entries_by (λ e. e.worker)

-- each reply is the directory's, from the empty one on; so it is for the directory as an object
pub record IsLegalFor (room : ℕ) (entries : List DirEntry) : Type 0 where
  pub legal : IsLegal (opening room) entries
  pub history : history.IsLegal reply_at state_after (state_numbers (opening room)) (operations call_numbers reply_numbers entries)

-- what was seen goes on, by what others did meanwhile, to this entry at its place; it is legal, and has just one more of this pass
pub record GoesOn (room : ℕ) (old : List DirEntry) (entry : DirEntry) (new : List DirEntry) : Type 0 where
  pub between : List DirEntry
  pub seen : new ≡ (old ++ between) ++ entry ∷ []
  pub place : entry.receipt ≡ length (old ++ between)
  pub legal : IsLegalFor room new
  pub own : calls_by entry.worker new ≡ calls_by entry.worker old ++ entry ∷ []

-- the journal has room for the call, and a shard's names are those after some of its entries
pub record MayEnter (journal : JournalValue) (call : DirCall) (shard : ShardValue) : Type 0 where
  pub left : length journal.entries < journal.limit
  pub admitted : IsAdmitted journal.room call
  pub up_to : IsUpTo journal.entries shard
  pub room : shard.room ≡ journal.room

-- the call's entry was put behind the others
pub record Enters (number : ℕ) (call : DirCall) (reply : DirReply) (old new : JournalValue) : Type 0 where
  pub entered : new ≡ record old { entries = old.entries ++ entry_by number call reply (length old.entries) ∷ [] }

-- the pass may make one call less, and knows more of the journal
pub record SpendsCall (old new : PassModel DirEntry) : Type 0 where
  pub left : new.left + 1 ≡ old.left
  pub stays : new ≡ record old { seen = new.seen; left = new.left }
