-- How a pass takes and frees a directory's lock.
use Rattle.std.specs.Prelude.{◌≡◌, ℕ, ◌+◌, true, List, [], ◌∷◌, ◌++◌, map, set, slice_get, slice_index_or, Some, None}
use Rattle.shfl_line.specs.declared.events.Mode.TheVariants.{Write}
use Rattle.shfl_core.specs.Plan.{is_idle, is_resting}
use Rattle.shfl_table.specs.declared.view.Decision.{Decision}
use Rattle.shfl_table.specs.PassModel.{PassModel, BoardId}
use Rattle.shfl_table.specs.Waits.{as_idle}
use Rattle.dir_shards.specs.KeptShards.{KeptShardModel, state_of}

-- a directory's pass of a lock
abbrev pub LockPass : Type 0
LockPass = PassModel KeptShardModel

-- a pass between its calls: it is idle, with nothing out; no history is kept behind the lock
pub record IsFree (p : LockPass) : Type 0 where
  pub idle : is_idle p.own.phase ≡ true
  pub empty : p.values ≡ []
  pub unseen : p.history ≡ []
  pub one : p.board.table.slots ≡ 1

-- a pass that holds the lock and has taken out what lies behind it
pub record HasOut (p : LockPass) : Type 0 where
  pub holds : is_resting p.own ≡ true
  pub mode : p.own.reg.mode ≡ Write
  pub out : p.values ≡ None ∷ []
  pub unseen : p.history ≡ []
  pub one : p.board.table.slots ≡ 1

-- which pass of which lock it is
pub record IsSamePass (old new : LockPass) : Type 0 where
  pub board : new.board ≡ old.board
  pub number : new.own.reg.me ≡ old.own.reg.me
  pub state : new.initial_state ≡ old.initial_state

-- the pass that has freed its lock, by a step that found this word
abbrev pub as_free : ℕ → LockPass → LockPass
as_free word p = record p { own = as_idle p.own; steps_taken = p.steps_taken + 1; found = p.found ++ word ∷ []; values = [] }

-- the pass of this place took its lock, with what lies behind it
pub record TakesAt (place : ℕ) (old : List LockPass) (kept : KeptShardModel) (new : List LockPass) : Type 0 where
  pub before : LockPass
  pub after : LockPass
  pub was : slice_get old place ≡ Some before
  pub same : IsSamePass before after
  pub out : HasOut after
  pub state : state_of kept ≡ before.initial_state
  pub others : new ≡ set old place after

-- the pass of this place put it back, and freed its lock
pub record FreesAt (place : ℕ) (old new : List LockPass) : Type 0 where
  pub before : LockPass
  pub word : ℕ
  pub was : slice_get old place ≡ Some before
  pub others : new ≡ set old place (as_free word before)

-- what the lock of this place asked the policy
abbrev pub decisions_at : List LockPass → ℕ → List Decision
decisions_at passes place = slice_index_or (map (λ p. p.decisions) passes) place []

-- each pass is of the lock of its place
abbrev pub AreOfLocks : List LockPass → List BoardId → Type 0
AreOfLocks passes locks = map (λ p. p.board) passes ≡ locks
