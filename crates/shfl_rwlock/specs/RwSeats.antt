-- A seat that locks values to read and to write them, as clauses see it.
use Rattle.std.specs.Prelude.{◌≡◌, ℕ, ◌<◌, ◌≤◌, true, false, List, length, None, IsSome}
use Rattle.shfl_line.specs.declared.words.Attr.{Attr}
use Rattle.shfl_line.specs.declared.events.Mode.{Mode}
use Rattle.shfl_core.specs.Plan.{moving, shares}
use Rattle.shfl_arena.specs.declared.view.Decision.{Decision}
use Rattle.shfl_arena.specs.SeatModels.{ArenaId, SeatModel}
use Rattle.shfl_arena.specs.Threads.{mode_held}
use Rattle.shfl_rwlock.specs.declared.refusals.LockError.{LockError}
use Rattle.shfl_rwlock.specs.declared.refusals.LockError.TheVariants.{NoSuchLock, Held, Full, Busy}
use Rattle.shfl_rwlock.specs.Held.{AreApart, AreBelow}

pub record RwSeatModel : Type 0 where
  -- how many locks there are, and how many of them it may have at the same time
  pub locks : ℕ
  pub most : ℕ
  -- the thread's attributes, and what it has asked policies at any of them, with the answers
  pub attr : Attr
  pub decisions : List Decision
  -- those that it has, each with its mode, the one taken last in front
  pub held : List (ℕ × Mode)

-- it may have this lock: there is such a lock, it hasn't got it, and it has fewer than it may
pub record MayLock (s : RwSeatModel) (l : ℕ) : Type 0 where
  pub inside : l < s.locks
  pub free : mode_held l s.held ≡ None
  pub room : length s.held < s.most

-- why a seat isn't given this lock
abbrev pub Refuses : RwSeatModel → ℕ → LockError → Type 0
Refuses s l NoSuchLock = s.locks ≤ l
Refuses s l Held = IsSome (mode_held l s.held)
Refuses s l Full = s.most ≤ length s.held
Refuses s l Busy = MayLock s l

-- a seat of this arena that holds just these locks in these modes
pub record HoldsJust (id : ArenaId) (held : List (ℕ × Mode)) (s : SeatModel (Unit {0})) : Type 0 where
  pub arena : s.arena ≡ id
  -- the arena has no values, and readers may share its locks
  pub slots : id.table.slots ≡ 0
  pub form : shares id.rules.form ≡ true
  pub rests : moving s.own ≡ false
  pub inside : AreBelow id.shape.locks held
  pub apart : AreApart held
  pub holds : (l : ℕ) → mode_held l s.holds ≡ mode_held l held
