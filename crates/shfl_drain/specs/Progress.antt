-- No lawful world is stuck: somebody goes on, and whoever waits, waits for another.
use Rattle.std.specs.Prelude.{◌≡◌, ◌≢◌, ◌⊎◌, ℕ, suc, [], None, ◌<◌, length, true, false}
use Rattle.shfl_line.specs.Line.{Line}
use Rattle.shfl_line.specs.Words.{held_of, readers_of}
use Rattle.shfl_line.specs.Passes.{first}
use Rattle.shfl_core.specs.declared.words.Word.TheVariants.{Lock, Tail}
use Rattle.shfl_core.specs.Words.{look}
use Rattle.shfl_core.specs.Plan.{moving, is_resting}
use Rattle.shfl_core.specs.Phases.{is_backing}
use Rattle.shfl_core.specs.Worlds.{World, known}
use Rattle.shfl_core.specs.Lawful.{Terms, Lawful}
use Rattle.shfl_laws.specs.Headline.{Holds, IsLinkingTo}
use Rattle.shfl_laws.specs.PlainOwed.{Rings, SleepsToldOn}
use Rattle.shfl_drain.specs.GoingOn.{waits, goes_on, IsAtRest}

-- some pass goes on by itself, or holds the lock, owes no step, and may free it
pub data SomebodyActs (w : World) : Type 0 where
  GoesOn : (p : ℕ) → p < length w.passes → goes_on w p ≡ true → SomebodyActs w
  MayFree : (p : ℕ) → p < length w.passes → is_resting (known w.passes p) ≡ true → SomebodyActs w

-- in every lawful world all passes are idle, or somebody acts
abbrev pub NeverStuck : Terms → Type 0
NeverStuck t = (w : World) → Lawful t w → IsAtRest w ⊎ SomebodyActs w

-- nobody holds the lock, is counted in its word, waits for it or shuffles
pub record IsFreeAndEmpty (w : World) (s : Line) : Type 0 where
  pub held : held_of (look w.words Lock) ≡ false
  pub readers : readers_of (look w.words Lock) ≡ 0
  pub tail : look w.words Tail ≡ 0
  pub hold : s.hold ≡ []
  pub line : s.line ≡ []
  pub hand : s.hand ≡ None

abbrev pub FreeAtRest : Terms → Type 0
FreeAtRest t = (w : World) (ok : Lawful t w) → IsAtRest w → IsFreeAndEmpty w ok.shown

-- for whom the pass p waits
pub data WaitsFor (w : World) (s : Line) (p : ℕ) : Type 0 where
  -- the head, for a pass that holds the lock or is still counted in its word
  ForHolder : (q : ℕ) → q ≢ p → (Holds w q) ⊎ (is_backing (known w.passes q).phase ≡ true) → WaitsFor w s p
  -- who leaves the queue, for its successor, which goes on and writes its name next
  ForSuccessor : (q : ℕ) → IsLinkingTo w p q → goes_on w q ≡ true → WaitsFor w s p
  -- a sleeper that was told to go on, for the pass that goes on and wakes it next
  ForWaker : (r : ℕ) → r ≢ p → Rings w r p → goes_on w r ≡ true → WaitsFor w s p
  -- any other waiter, for the first of the line or the pass that is about to make it the head
  ForFirst : (q : ℕ) → first s.line ≡ suc q → q ≢ p → WaitsFor w s p
  ForGranter : (q : ℕ) → q ≢ p → Holds w q → goes_on w q ≡ true → WaitsFor w s p

-- whoever has a step to make and doesn't go on by itself waits for another
abbrev pub WaitsForAnother : Terms → Type 0
WaitsForAnother t = (w : World) (ok : Lawful t w) (p : ℕ) → moving (known w.passes p) ≡ true → waits w p ≡ true → WaitsFor w ok.shown p

-- a sleeper that was told to go on goes on by itself, or waits for the one that wakes it next
abbrev pub SleeperIsWoken : Terms → Type 0
SleeperIsWoken t = (w : World) (ok : Lawful t w) (p : ℕ) → SleepsToldOn w p
    → (goes_on w p ≡ true) ⊎ ((r : ℕ) × (r ≢ p) × Rings w r p × (goes_on w r ≡ true))
