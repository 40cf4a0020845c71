-- Who parks, and that every sleeper that may go on is owed one wakeup, in plain words.
use Rattle.std.specs.Prelude.{◌≡◌, ◌≢◌, ℕ, ◌<◌, ◌⊎◌, ◌↔◌, true, false}
use Rattle.shfl_line.specs.declared.events.Form.{Form}
use Rattle.shfl_line.specs.Words.{ready_of, spin_of, parked_of}
use Rattle.shfl_core.specs.declared.phase.Phase.{Phase}
use Rattle.shfl_core.specs.declared.phase.Phase.TheVariants.{Look, Held, Give, Next}
use Rattle.shfl_core.specs.declared.phase.Nap.TheVariants.{Awake, Doze, Hear, Rouse, Ring}
use Rattle.shfl_core.specs.declared.words.Word.TheVariants.{State, Bell}
use Rattle.shfl_core.specs.Words.{look}
use Rattle.shfl_core.specs.Plan.{parks}
use Rattle.shfl_core.specs.Worlds.{World, known}
use Rattle.shfl_laws.specs.Headline.{IsQueued, batch}
use Rattle.shfl_laws.specs.Facts.{Waits}

-- the state word of the pass tells it to go on: it was made ready, or told to spin
abbrev pub IsToldOn : World → ℕ → Type 0
IsToldOn w p = (ready_of (look w.words (State p)) ≡ true) ⊎ (spin_of (look w.words (State p)) ≡ true)

-- the pass waits for its wakeup word, and its state word tells it to go on
pub record SleepsToldOn (w : World) (p : ℕ) : Type 0 where
  pub sleeps : (known w.passes p).nap ≡ Hear
  pub told : IsToldOn w p

-- the pass r is about to set the wakeup word of p
abbrev pub Rings : World → ℕ → ℕ → Type 0
Rings w r p = (known w.passes r).nap ≡ Ring p

-- exactly one pass is about to set the wakeup word of p, and that one is another
pub record IsOwedOnce (w : World) (p : ℕ) : Type 0 where
  pub who : ℕ
  pub rings : Rings w who p
  pub other : who ≢ p
  pub only : (r : ℕ) → Rings w r p → r ≡ who

-- the phases at which a pass wakes another
abbrev pub WakesAt : Phase → Type 0
WakesAt f = (f ≡ Held) ⊎ ((f ≡ Give) ⊎ (f ≡ Next))

-- the pass doesn't park, and no word says that it does
pub record NeverParks (w : World) (p : ℕ) : Type 0 where
  pub awake : (known w.passes p).nap ≡ Awake
  pub parked : parked_of (look w.words (State p)) ≡ false
  pub spin : spin_of (look w.words (State p)) ≡ false
  pub bell : look w.words (Bell p) ≡ 0

pub record PlainOwed (form : Form) (w : World) : Type 0 where
  -- a pass parks only where it looks at its own state word, and wakes another only where it has just called that one
  pub dozes : (p : ℕ) → (known w.passes p).nap ≡ Doze → (known w.passes p).phase ≡ Look
  pub sleeps : (p : ℕ) → (known w.passes p).nap ≡ Hear → (known w.passes p).phase ≡ Look
  pub rouses : (p : ℕ) → (known w.passes p).nap ≡ Rouse → (known w.passes p).phase ≡ Look
  pub wakes : (r p : ℕ) → Rings w r p → WakesAt (known w.passes r).phase
  pub never : parks form ≡ false → (p : ℕ) → NeverParks w p
  -- a state word says that its pass is parked exactly where the pass sleeps or has yet to take that back
  pub parked : (p : ℕ) → (parked_of (look w.words (State p)) ≡ true)
      ↔ (((known w.passes p).nap ≡ Hear) ⊎ ((known w.passes p).nap ≡ Rouse))
  pub roused : (p : ℕ) → (known w.passes p).nap ≡ Rouse → IsToldOn w p
  -- in a form with parking a queued pass that is told to spin is of the batch, and a waiter of the batch was told
  pub grouped : parks form ≡ true → (p : ℕ) → IsQueued w p → spin_of (look w.words (State p)) ≡ true → 0 < batch w p
  pub spins : parks form ≡ true → (p : ℕ) → Waits w p → 0 < batch w p → spin_of (look w.words (State p)) ≡ true
  -- no wakeup is lost: a sleeper that is told to go on has its wakeup word set, or exactly one pass is about to set it
  pub owed : (p : ℕ) → SleepsToldOn w p → look w.words (Bell p) ≡ 0 → IsOwedOnce w p
  -- and none is to spare
  pub rung : (p : ℕ) → 0 < look w.words (Bell p) → SleepsToldOn w p × ((r : ℕ) → ¬ (Rings w r p))
  pub rings : (r p : ℕ) → Rings w r p → SleepsToldOn w p × (look w.words (Bell p) ≡ 0)
