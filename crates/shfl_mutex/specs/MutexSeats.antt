-- A seat that locks mutexes, as clauses see it.
use Rattle.std.specs.Prelude.{◌≡◌, ℕ, ◌≤◌, true, false, List, length}
use Rattle.shfl_line.specs.declared.words.Attr.{Attr}
use Rattle.shfl_core.specs.Plan.{moving}
use Rattle.shfl_arena.specs.declared.view.Decision.{Decision}
use Rattle.shfl_arena.specs.SeatModels.{ArenaId, SeatModel}
use Rattle.shfl_arena.specs.Threads.{mode_held}
use Rattle.shfl_mutex.specs.Held.{AreApart, AreBelow, hold_in, is_among, values_out}
use Rattle.shfl_mutex.specs.declared.seat.LockError.{LockError}
use Rattle.shfl_mutex.specs.declared.seat.LockError.TheVariants.{NoSuchLock, Held, Full, Busy}

pub record MutexSeatModel : Type 0 where
  -- the arena of the mutexes
  pub arena : ArenaId
  -- how many mutexes there are, and how many of them it may lock at the same time
  pub locks : ℕ
  pub most : ℕ
  -- the thread's attributes, and what it has asked policies at any of them, with the answers
  pub attr : Attr
  pub decisions : List Decision
  -- those that it has locked, the one taken last in front
  pub held : List ℕ

-- why a seat doesn't lock this mutex
abbrev pub Refuses : MutexSeatModel → ℕ → LockError → Type 0
Refuses s l NoSuchLock = s.locks ≤ l
Refuses s l Held = is_among l s.held ≡ true
Refuses s l Full = s.most ≤ length s.held
Refuses s l Busy = is_among l s.held ≡ false

-- a seat of this arena that holds just these locks, all as a writer and with their values out
pub record HoldsJust {X : Type 0} (id : ArenaId) (held : List ℕ) (s : SeatModel X) : Type 0 where
  pub arena : s.arena ≡ id
  pub slots : id.table.slots ≡ id.shape.locks
  pub rests : moving s.own ≡ false
  pub inside : AreBelow id.shape.locks held
  pub apart : AreApart held
  pub holds : (l : ℕ) → mode_held l s.holds ≡ hold_in l held
  pub values : s.values ≡ values_out held
