-- Which line state a world shows, in plain words.
use Rattle.std.specs.Prelude.{◌≡◌, ℕ, ◌+◌, ◌<◌, ◌⊎◌, ◌↔◌, Some, Contains, length, true}
use Rattle.shfl_line.specs.declared.events.Mode.{Mode}
use Rattle.shfl_line.specs.declared.events.Mode.TheVariants.{Write}
use Rattle.shfl_line.specs.declared.events.Role.TheVariants.{Rest, Walk}
use Rattle.shfl_line.specs.Line.{Line, Rises, mark_of, reader_count}
use Rattle.shfl_line.specs.Words.{held_of, readers_of}
use Rattle.shfl_line.specs.Passes.{times}
use Rattle.shfl_core.specs.declared.words.Word.TheVariants.{Lock}
use Rattle.shfl_core.specs.Words.{look}
use Rattle.shfl_core.specs.Phases.{has_hand}
use Rattle.shfl_core.specs.Holding.{total, backs}
use Rattle.shfl_core.specs.Worlds.{World, known}
use Rattle.shfl_laws.specs.Headline.{HoldsAs, IsWaitLine, IsQueued, Shuffles, HasFlag, batch}

-- the pass p has taken its candidate c out of the line
pub record Detaches (w : World) (p c : ℕ) : Type 0 where
  pub takes : has_hand (known w.passes p).phase ≡ true
  pub candidate : (known w.passes p).reg.cand ≡ c

-- how many of n passes are counted in the lock word and don't hold the lock
abbrev pub counted_besides : World → ℕ → ℕ
counted_besides w n = total n (λ p. backs (known w.passes p))

-- the world of n passes shows the line state s
pub record ShowsPlainly (n : ℕ) (w : World) (s : Line) : Type 0 where
  -- the line goes from the one head by successors to the pass that the tail word names, which has none
  pub queue : IsWaitLine w s.line
  -- the detached waiter is the candidate of the pass that has taken it out, and else there is none
  pub hand : (c : ℕ) → (s.hand ≡ Some c) ↔ ((p : ℕ) × Detaches w p c)
  -- the passes of the line and the detached waiter together are exactly the queued passes
  pub queued : (p : ℕ) → IsQueued w p ↔ ((0 < times p s.line) ⊎ (s.hand ≡ Some p))
  -- the hold has each pass that holds the lock, with its mode, and no other, in rising order
  pub hold : (p : ℕ) (m : Mode) → Contains s.hold (p, m) ↔ HoldsAs w m p
  pub rises : Rises 0 n s.hold
  -- the lock word's held is set exactly where a writer holds
  pub held : (held_of (look w.words Lock) ≡ true) ↔ ((p : ℕ) × HoldsAs w Write p)
  -- it counts the readers that hold, and the passes that are counted besides
  pub readers : readers_of (look w.words Lock) ≡ reader_count s.hold + counted_besides w n
  -- the active shuffler is the pass in a round, the idle one the queued pass with the flag, and nobody else shuffles
  pub active : (p : ℕ) → (s.role ≡ Walk p) ↔ Shuffles w p
  pub idle : (p : ℕ) → (s.role ≡ Rest p) ↔ HasFlag w p
  -- each pass has a batch number: a queued one that of its state word, any other 0
  pub marks : length s.mark ≡ n
  pub mark : (p : ℕ) → IsQueued w p → mark_of s p ≡ batch w p
  pub unmarked : (p : ℕ) → ¬ (IsQueued w p) → mark_of s p ≡ 0
