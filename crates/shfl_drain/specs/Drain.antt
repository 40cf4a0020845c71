-- What is left until a lock without newcomers has drained.
use Rattle.std.specs.Prelude.{◌≡◌, ℕ, ◌+◌, ◌*◌, ◌<◌, ◌≤◌, Bool, true, false}
use Rattle.shfl_core.specs.Plan.{is_resting}
use Rattle.shfl_core.specs.Worlds.{World, known, Move, Acquire, Release, Step, after_move}
use Rattle.shfl_core.specs.Lawful.{Terms, count, Lawful, Advances}
use Rattle.shfl_laws.specs.Moves.{move_event}
use Rattle.shfl_drain.specs.GoingOn.{goes_on, IsAtRest}
use Rattle.shfl_drain.specs.Progress.{IsFreeAndEmpty}

-- a newcomer
abbrev pub is_acquire : Move → Bool
is_acquire (Acquire p mode) = true
is_acquire (Release p) = false
is_acquire (Step p choice) = false

-- so much is left at most, among so many passes, whatever the batch limit
abbrev pub most_left : ℕ → ℕ
most_left n = (33 * n + 1) * (n * (9 * n + 18) + 1)

-- of each lawful world a number that says how much is left until the lock has drained
pub record DrainNumber (t : Terms) : Type 0 where
  pub number : (w : World) → Lawful t w → ℕ
  pub bounded : (w : World) (ok : Lawful t w) → number w ok ≤ most_left (count t)
  -- nothing is left exactly where all are idle
  pub at_rest : (w : World) (ok : Lawful t w) → IsAtRest w → number w ok ≡ 0
  pub drained : (w : World) (ok : Lawful t w) → number w ok ≡ 0 → IsAtRest w
  -- nothing but an acquire raises it, whatever the policies answer
  pub keeps : (w : World) (ok : Lawful t w) (m : Move) (a : Advances t w ok (move_event t.rules w m) (after_move t.rules w m))
      → is_acquire m ≡ false → number (after_move t.rules w m) a.lawful ≤ number w ok
  -- each step of a pass that goes on lowers it, and so does each holder that frees the lock
  pub steps : (w : World) (ok : Lawful t w) (p : ℕ) (choice : Bool) (a : Advances t w ok (move_event t.rules w (Step p choice)) (after_move t.rules w (Step p choice)))
      → goes_on w p ≡ true → number (after_move t.rules w (Step p choice)) a.lawful < number w ok
  pub releases : (w : World) (ok : Lawful t w) (p : ℕ) (a : Advances t w ok (move_event t.rules w (Release p)) (after_move t.rules w (Release p)))
      → is_resting (known w.passes p) ≡ true → number (after_move t.rules w (Release p)) a.lawful < number w ok

-- all passes are idle, and the lock is free and empty
pub record HasDrained (t : Terms) (w : World) : Type 0 where
  pub lawful : Lawful t w
  pub rest : IsAtRest w
  pub free : IsFreeAndEmpty w lawful.shown
