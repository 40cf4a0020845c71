-- A sharded directory and its passes, as clauses see them.
use Rattle.std.specs.Prelude.{◌≡◌, ℕ, ◌+◌, ◌-◌, ◌<◌, false, List, [], ◌∷◌, ◌++◌, map, length, take, slice_get, slice_index, slice_index_or, Contains, Some, Option}
use Rattle.atomic_table.specs.Seated.{TableId}
use Rattle.dir_table.specs.declared.calls.DirCall.{DirCall}
use Rattle.dir_table.specs.declared.calls.DirReply.{DirReply}
use Rattle.shfl_line.specs.declared.words.Attr.{Attr}
use Rattle.shfl_line.specs.declared.choosers.Told.{Told}
use Rattle.shfl_table.specs.declared.view.Decision.{Decision}
use Rattle.shfl_table.specs.PassModel.{BoardId}
use Rattle.shfl_table.specs.Waits.{AsksInRounds}
use Rattle.shared_journal.specs.Entries.{IsAmong}
use Rattle.shared_journal.specs.Models.{PassModel}
use Rattle.shard_rows.specs.Replay.{DirEntry, entry_by}
use Rattle.dir_shards.specs.KeptShards.{lock_state}
use Rattle.dir_shards.specs.Commits.{GoesOn}
use Rattle.dir_shards.specs.Locks.{LockPass, IsFree}

-- a directory: the locks of its 64 directories, in order, the table of its journal, below which number its names are, and how many
-- calls each pass may make
pub record ShardedDirModel : Type 0 where
  pub locks : List BoardId
  pub journal : TableId
  pub room : ℕ
  pub allowed : List ℕ

-- a pass: its directory's locks, what each of them asked the policy, the journal's table, below which number names are, its number, the
-- beginning of the journal that it has seen, how many calls it may still make, and its attributes
pub record ShardPassModel : Type 0 where
  pub locks : List BoardId
  pub decisions : List (List Decision)
  pub journal : TableId
  pub room : ℕ
  pub number : ℕ
  pub seen : List DirEntry
  pub left : ℕ
  pub attr : Attr

-- a pass of this directory
pub record IsPassOf (dir : ShardedDirModel) (p : ShardPassModel) : Type 0 where
  pub locks : p.locks ≡ dir.locks
  pub journal : p.journal ≡ dir.journal
  pub room : p.room ≡ dir.room

-- the idle pass of one directory's lock
pub record IsLockPass (table : TableId) (room number dir : ℕ) (p : LockPass) : Type 0 where
  pub free : IsFree p
  pub number_is : p.own.reg.me ≡ number
  pub state : p.initial_state ≡ lock_state table room dir

-- what is always true of a pass between its calls: the journal is not out with it, and each of its locks is that of the directory of its
-- place
pub record ShardPassInvariant (passes : List LockPass) (journal : PassModel DirEntry) : Type 0 where
  pub home : journal.is_out ≡ false
  pub each : (dir : ℕ) (p : LockPass) → slice_get passes dir ≡ Some p
      → IsLockPass journal.table (slice_index journal.opening 0) journal.number dir p

-- what the lock of this directory asked the policy
abbrev pub asked_at : ShardPassModel → ℕ → List Decision
asked_at p dir = slice_index_or p.decisions dir []

-- what these locks asked, the chooser answered, one lock after another
abbrev pub AsksInTurn : ShardPassModel → ShardPassModel → List ℕ → Option (List Told) → Option (List Told) → Type 0
AsksInTurn old new [] told told' = told' ≡ told
AsksInTurn old new (dir ∷ dirs) told told' =
    (between : Option (List Told)) × AsksInRounds old.attr (asked_at old dir) (asked_at new dir) told between × AsksInTurn old new dirs between told'

-- and no other lock asked anything
pub record Asks (old new : ShardPassModel) (dirs : List ℕ) (told told' : Option (List Told)) : Type 0 where
  pub in_turn : AsksInTurn old new dirs told told'
  pub elsewhere : (dir : ℕ) → ¬ IsAmong dir dirs → asked_at new dir ≡ asked_at old dir

-- a call was made: what the pass has seen goes on to the call's entry, at its place. It is legal, and has one more of this pass
pub record MakesCall (old : ShardPassModel) (call : DirCall) (reply : DirReply) (place : ℕ) (new : ShardPassModel) : Type 0 where
  pub goes_on : GoesOn old.room old.seen (entry_by old.number call reply place) new.seen
  pub left : new.left + 1 ≡ old.left
  pub stays : new ≡ record old { decisions = new.decisions; seen = new.seen; left = new.left }

-- a pass of a directory with these locks, which has made no call
abbrev pub fresh_with : List BoardId → TableId → ℕ → ℕ → ℕ → Attr → ShardPassModel
fresh_with locks journal room number left attr = record {
  locks = locks;
  decisions = map (λ _. []) locks;
  journal = journal;
  room = room;
  number = number;
  seen = [];
  left = left;
  attr = attr;
}

abbrev pub fresh : ShardedDirModel → ℕ → ℕ → Attr → ShardPassModel
fresh dir = fresh_with dir.locks dir.journal dir.room

abbrev pub no_attr : Attr
no_attr = record { socket = 0; prio = 0; class = 0; kind = 0 }

-- these are all passes of a directory of so many
abbrev pub AreAll : ℕ → List ShardPassModel → Type 0
AreAll count passes = (k : ℕ) → k < count → Contains (map (λ p. p.number) passes) k

-- each pass stands at the place of its number
abbrev pub AreInOrder : List ShardPassModel → Type 0
AreInOrder passes = (k : ℕ) (d : ShardPassModel) → k < length passes → (slice_index_or passes k d).number ≡ k

-- the pass with one lock more, which asked nothing
abbrev pub with_lock : BoardId → ShardPassModel → ShardPassModel
with_lock lock p = record p { locks = p.locks ++ lock ∷ []; decisions = p.decisions ++ [] ∷ [] }

-- the pass with these locks alone, which asked nothing
abbrev pub with_locks : List BoardId → ShardPassModel → ShardPassModel
with_locks locks p = record p { locks = locks; decisions = map (λ _. []) locks }

-- the pass may have this lock as its next one
pub record MayAdd (p : ShardPassModel) (lock : LockPass) : Type 0 where
  pub is_lock : IsLockPass p.journal p.room p.number (length p.locks) lock
  pub asked : lock.decisions ≡ []

-- the pass without its last lock
abbrev pub without_last : ShardPassModel → ShardPassModel
without_last p = record p { locks = take (length p.locks - 1) p.locks; decisions = take (length p.decisions - 1) p.decisions }
