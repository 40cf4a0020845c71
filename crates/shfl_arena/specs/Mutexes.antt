-- A seat that locks a mutex and has its value, and one that puts a value back and unlocks it.
use Rattle.std.specs.Prelude.{◌≡◌, ◌≢◌, ◌∷◌, ℕ, false, Some, None}
use Rattle.atomic_table.specs.Table.{rest}
use Rattle.shfl_line.specs.declared.events.Mode.TheVariants.{Write}
use Rattle.shfl_core.specs.Plan.{moving}
use Rattle.shfl_arena.specs.Threads.{mode_held}
use Rattle.shfl_arena.specs.SeatModels.{SeatModel}

pub record Locks {X : Type 0} (lock : ℕ) (old new : SeatModel X) : Type 0 where
  pub arena : new.arena ≡ old.arena
  pub number : new.own.reg.me ≡ old.own.reg.me
  pub rests : moving new.own ≡ false
  -- it holds the lock as a writer, and the other locks as before
  pub here : mode_held lock new.holds ≡ Some Write
  pub elsewhere : (l : ℕ) → l ≢ lock → mode_held l new.holds ≡ mode_held l old.holds
  -- the value was taken out, and no other value moved
  pub values : new.values ≡ (lock, None) ∷ old.values

pub record Unlocks {X : Type 0} (lock : ℕ) (old new : SeatModel X) : Type 0 where
  pub arena : new.arena ≡ old.arena
  pub number : new.own.reg.me ≡ old.own.reg.me
  pub rests : moving new.own ≡ false
  pub here : mode_held lock new.holds ≡ None
  pub elsewhere : (l : ℕ) → l ≢ lock → mode_held l new.holds ≡ mode_held l old.holds
  -- it asked nothing
  pub decisions : new.decisions ≡ old.decisions
  pub values : new.values ≡ rest old.values
