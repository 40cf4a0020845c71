-- Parking: who is parked, and that no wakeup is lost.
use Rattle.std.specs.Prelude.{◌≡◌, ◌≢◌, ℕ, ◌<◌, Bool, true, false, ◌||◌}
use Rattle.shfl_line.specs.declared.events.Form.{Form}
use Rattle.shfl_line.specs.declared.words.NodeState.{NodeState}
use Rattle.shfl_core.specs.declared.phase.Phase.{Phase}
use Rattle.shfl_core.specs.declared.phase.Phase.TheVariants.{Swap, Look, Held, Give, Next}
use Rattle.shfl_core.specs.declared.phase.Nap.{Nap}
use Rattle.shfl_core.specs.declared.phase.Nap.TheVariants.{Awake, Hear, Rouse, Ring}
use Rattle.shfl_core.specs.Plan.{parks}
use Rattle.shfl_core.specs.Phases.{is_queued, is_fore}
use Rattle.shfl_core.specs.View.{View}

-- the state word tells the pass to go on
abbrev pub called : NodeState → Bool
called n = n.ready || n.spin

-- the pass's announcement stands in its state word
abbrev pub announces : Nap → Bool
announces Hear = true
announces Rouse = true
announces _ = false

-- the phases at which a park state may stand
abbrev pub fits : Nap → Phase → Bool
fits Awake f = true
fits (Ring whom) Held = true
fits (Ring whom) Give = true
fits (Ring whom) Next = true
fits (Ring whom) _ = false
fits _ Look = true
fits _ _ = false

-- the pass waits for its wakeup word, and its state word tells it to go on
pub record IsCalledSleeper (w : View) (q : ℕ) : Type 0 where
  pub sleeps : (w.pass q).nap ≡ Hear
  pub called : called (w.node q) ≡ true

pub record Owed (form : Form) (w : View) : Type 0 where
  pub places : (q : ℕ) → fits (w.pass q).nap (w.pass q).phase ≡ true
  pub parked : (q : ℕ) → (w.node q).parked ≡ announces (w.pass q).nap
  pub roused : (q : ℕ) → (w.pass q).nap ≡ Rouse → called (w.node q) ≡ true
  -- in a form without parking nobody parks
  pub spinning : parks form ≡ false → (q : ℕ) → ((w.pass q).nap ≡ Awake) × ((w.node q).spin ≡ false) × (w.bell q ≡ 0)
  -- in one with parking, whoever is told to spin is in the batch, and a waiter of the batch was told
  pub told : (q : ℕ) → is_queued (w.pass q) ≡ true → (w.node q).spin ≡ true → 0 < (w.node q).batch
  pub grouped : parks form ≡ true → (q : ℕ) → is_queued (w.pass q) ≡ true → is_fore (w.pass q) ≡ false → 0 < (w.node q).batch → (w.node q).spin ≡ true
  pub fresh : (q : ℕ) → (w.pass q).phase ≡ Swap → (w.node q).spin ≡ false
  -- a sleeper that is told to go on has its wakeup word set, or one pass is about to set it
  pub owed : (q : ℕ) → IsCalledSleeper w q → w.bell q ≡ 0 → (r : ℕ) × ((w.pass r).nap ≡ Ring q)
  pub one : (q a b : ℕ) → (w.pass a).nap ≡ Ring q → (w.pass b).nap ≡ Ring q → a ≡ b
  pub rung : (q : ℕ) → 0 < w.bell q → IsCalledSleeper w q × ((r : ℕ) → (w.pass r).nap ≢ Ring q)
  pub rings : (r q : ℕ) → (w.pass r).nap ≡ Ring q → IsCalledSleeper w q × (w.bell q ≡ 0)
