-- What the registers and words of a lawful world say of its line, in plain words. The facts that the definitions of
-- order, grouping, holding and parking give word for word stand there.
use Rattle.std.specs.Prelude.{◌≡◌, ◌≢◌, ◌⊎◌, ℕ, suc, ◌<◌, Some, false}
use Rattle.shfl_line.specs.Words.{ready_of}
use Rattle.shfl_line.specs.Passes.{times, first, behind, last_marked}
use Rattle.shfl_line.specs.Line.{Line}
use Rattle.shfl_core.specs.declared.phase.Phase.TheVariants.{Swap, Link, Give, Ready}
use Rattle.shfl_core.specs.declared.words.Word.TheVariants.{Next, State}
use Rattle.shfl_core.specs.Words.{look}
use Rattle.shfl_core.specs.Phases.{is_fore}
use Rattle.shfl_core.specs.Worlds.{World, known}
use Rattle.shfl_core.specs.Lawful.{Terms, Lawful}
use Rattle.shfl_laws.specs.Headline.{IsQueued, IsHead, IsLinkingTo, Shuffles, batch}

-- the pass waits, and isn't at the head by its phase
pub record Waits (w : World) (p : ℕ) : Type 0 where
  pub queued : IsQueued w p
  pub rear : is_fore (known w.passes p) ≡ false

-- the pass waits, and nobody has made it ready
pub record WaitsUncalled (w : World) (p : ℕ) : Type 0 where
  pub waits : Waits w p
  pub ready : ready_of (look w.words (State p)) ≡ false

-- the successor that the pass p is about to make ready
pub record Grants (w : World) (s : Line) (p : ℕ) : Type 0 where
  pub first : first s.line ≡ suc (known w.passes p).reg.heir
  pub uncalled : WaitsUncalled w (known w.passes p).reg.heir
  pub linked : (known w.passes (known w.passes p).reg.heir).phase ≢ Link
  -- nobody is at the head by its phase meanwhile
  pub headless : (q : ℕ) → is_fore (known w.passes q) ≡ false

-- where the round of the pass p has come to
pub record RoundPlace (limit : ℕ) (w : World) (s : Line) (p : ℕ) : Type 0 where
  -- `last` is the last pass with a batch number, and `count` is that number
  pub last : last_marked (batch w) s.line ≡ suc (known w.passes p).reg.last
  pub count : batch w (known w.passes p).reg.last ≡ (known w.passes p).reg.count
  pub room : (known w.passes p).phase ≢ Give → (known w.passes p).reg.count < limit
  -- `prev` is in the line, at `last` or behind it
  pub inside : 0 < times (known w.passes p).reg.prev s.line
  pub prev : ((known w.passes p).reg.prev ≡ (known w.passes p).reg.last) ⊎ (0 < times (known w.passes p).reg.prev (behind (known w.passes p).reg.last s.line))

pub record Facts (limit : ℕ) (w : World) (s : Line) : Type 0 where
  -- who isn't queued has no successor, and who joins next has a state word of 0
  pub unlinked : (p : ℕ) → ¬ (IsQueued w p) → look w.words (Next p) ≡ 0
  pub cleared : (p : ℕ) → (known w.passes p).phase ≡ Swap → (look w.words (State p) ≡ 0) × ((known w.passes p).reg.batch ≡ 0) × ((known w.passes p).reg.flag ≡ false)
  -- who has yet to write a next word stands behind a pass of the line whose next word is 0, alone, and isn't made ready
  pub late : (a b : ℕ) → IsLinkingTo w a b → (0 < times a s.line) × (look w.words (Next a) ≡ 0) × (ready_of (look w.words (State b)) ≡ false)
  pub late_one : (a b c : ℕ) → IsLinkingTo w a b → IsLinkingTo w a c → b ≡ c
  -- one pass at most is about to make its successor ready
  pub ready_one : (p q : ℕ) → (known w.passes p).phase ≡ Ready → (known w.passes q).phase ≡ Ready → p ≡ q
  pub grants : (p : ℕ) → (known w.passes p).phase ≡ Ready → Grants w s p
  -- all of the line but the head, and the detached waiter, wait and aren't made ready
  pub line : (p : ℕ) → 0 < times p s.line → ¬ (IsHead w p) → WaitsUncalled w p
  pub detached : (p : ℕ) → s.hand ≡ Some p → WaitsUncalled w p
  pub round : (p : ℕ) → Shuffles w p → RoundPlace limit w s p

abbrev pub FactsLaw : Type 0
FactsLaw = (t : Terms) (w : World) (ok : Lawful t w) → Facts t.rules.limit w ok.shown
