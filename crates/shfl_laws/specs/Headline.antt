-- What every lawful world is, in plain words: who holds, who waits and where, and who shuffles.
use Rattle.std.specs.Prelude.{◌≡◌, ◌≢◌, ◌⊎◌, ℕ, suc, ◌<◌, ◌≤◌, List, [], ◌∷◌, Option, Some, true, false}
use Rattle.shfl_line.specs.declared.events.Mode.{Mode}
use Rattle.shfl_line.specs.declared.events.Mode.TheVariants.{Write, Read}
use Rattle.shfl_line.specs.Words.{held_of, readers_of, ready_of, shuffler_of, batch_of}
use Rattle.shfl_line.specs.Passes.{times, Chain, EachPair, MarkedFirst, end}
use Rattle.shfl_core.specs.declared.phase.Phase.TheVariants.{Link, Ready}
use Rattle.shfl_core.specs.declared.words.Word.TheVariants.{Lock, Tail, Next, State}
use Rattle.shfl_core.specs.Words.{look}
use Rattle.shfl_core.specs.Phases.{is_holding, is_queued, is_fore, is_round, has_hand}
use Rattle.shfl_core.specs.Worlds.{World, known}

-- the pass holds the lock
abbrev pub Holds : World → ℕ → Type 0
Holds w p = is_holding (known w.passes p).phase ≡ true

-- the pass holds the lock in this mode
pub record HoldsAs (w : World) (m : Mode) (p : ℕ) : Type 0 where
  pub holds : Holds w p
  pub mode : (known w.passes p).reg.mode ≡ m

-- one writer holds the lock, or readers alone, or nobody
pub data Holders (w : World) : Type 0 where
  OneWriter : (p : ℕ) → HoldsAs w Write p → ((q : ℕ) → Holds w q → q ≡ p) → Holders w
  ReadersAlone : (p : ℕ) → HoldsAs w Read p → ((q : ℕ) → Holds w q → HoldsAs w Read q) → Holders w
  Nobody : ((q : ℕ) → ¬ (Holds w q)) → Holders w

-- the pass has joined and has yet to write the next word of the one before it
pub record IsLinkingTo (w : World) (a b : ℕ) : Type 0 where
  pub links : (known w.passes b).phase ≡ Link
  pub before : (known w.passes b).reg.before ≡ a

-- b is the successor of a: a's next word names it, or that word is 0 and b has yet to write it
abbrev pub IsSuccessor : World → ℕ → ℕ → Type 0
IsSuccessor w a b = (look w.words (Next a) ≡ suc b) ⊎ ((look w.words (Next a) ≡ 0) × IsLinkingTo w a b)

-- a has no successor
pub record HasNoSuccessor (w : World) (a : ℕ) : Type 0 where
  pub word : look w.words (Next a) ≡ 0
  pub links : (b : ℕ) → ¬ (IsLinkingTo w a b)

-- a is the queue's head: the successor that a pass is about to make ready; where there is no such pass, the one
-- that is at the head by its phase; and where there is none either, the waiter that was made ready
pub data IsHead (w : World) (a : ℕ) : Type 0 where
  Named : (p : ℕ) → (known w.passes p).phase ≡ Ready → (known w.passes p).reg.heir ≡ a → IsHead w a
  Active : ((p : ℕ) → (known w.passes p).phase ≢ Ready) → is_fore (known w.passes a) ≡ true → IsHead w a
  Called : ((p : ℕ) → (known w.passes p).phase ≢ Ready) → ((p : ℕ) → is_fore (known w.passes p) ≡ false)
      → is_queued (known w.passes a) ≡ true → ready_of (look w.words (State a)) ≡ true → IsHead w a

-- the line is empty where the tail word is 0, and nobody is the head then; else it goes from the one head by
-- successors to the pass that the tail word names, which has none
abbrev pub IsWaitLine : World → List ℕ → Type 0
IsWaitLine w [] = (look w.words Tail ≡ 0) × ((a : ℕ) → ¬ (IsHead w a))
IsWaitLine w (x ∷ xs) = IsHead w x × ((a : ℕ) → IsHead w a → a ≡ x) × Chain (IsSuccessor w) x xs
    × (look w.words Tail ≡ suc (end x xs)) × HasNoSuccessor w (end x xs)

-- the pass waits in the queue or is at its head
abbrev pub IsQueued : World → ℕ → Type 0
IsQueued w p = is_queued (known w.passes p) ≡ true

-- the pass stands once in the line and isn't the detached one, or the other way round
abbrev pub StandsOnce : List ℕ → Option ℕ → ℕ → Type 0
StandsOnce line detached p = ((times p line ≡ 1) × (detached ≢ Some p)) ⊎ ((times p line ≡ 0) × (detached ≡ Some p))

-- the pass is in a round of shuffling
abbrev pub Shuffles : World → ℕ → Type 0
Shuffles w p = is_round (known w.passes p).phase ≡ true

-- the pass is queued, and its state word has the shuffler's flag
pub record HasFlag (w : World) (p : ℕ) : Type 0 where
  pub queued : IsQueued w p
  pub flag : shuffler_of (look w.words (State p)) ≡ true

-- the batch number that a pass's state word gives
abbrev pub batch : World → ℕ → ℕ
batch w p = batch_of (look w.words (State p))

pub record Headline (limit : ℕ) (w : World) (line : List ℕ) (detached : Option ℕ) : Type 0 where
  pub holders : Holders w
  -- the lock word says so: its held bit is set exactly where a writer holds, and it counts each reader that holds
  pub writer_in_word : (p : ℕ) → HoldsAs w Write p → held_of (look w.words Lock) ≡ true
  pub word_has_writer : held_of (look w.words Lock) ≡ true → (p : ℕ) × HoldsAs w Write p
  pub reader_in_word : (p : ℕ) → HoldsAs w Read p → 0 < readers_of (look w.words Lock)
  -- the line is what the words and the passes say
  pub queue : IsWaitLine w line
  -- every queued pass stands once in the line or is the one detached, and nobody else does
  pub each : (p : ℕ) → IsQueued w p → StandsOnce line detached p
  pub others : (p : ℕ) → ¬ (IsQueued w p) → (times p line ≡ 0) × (detached ≢ Some p)
  -- one pass at most shuffles; else one at most has the flag; and only who shuffles has a waiter detached, its candidate
  pub one_shuffler : (p q : ℕ) → Shuffles w p → Shuffles w q → p ≡ q
  pub one_flag : (p q : ℕ) → HasFlag w p → HasFlag w q → p ≡ q
  pub no_flag : (p q : ℕ) → Shuffles w p → ¬ (HasFlag w q)
  pub detaches : (p : ℕ) → has_hand (known w.passes p).phase ≡ true → detached ≡ Some (known w.passes p).reg.cand
  pub detached_by : (c : ℕ) → detached ≡ Some c → (p : ℕ) × Shuffles w p × (has_hand (known w.passes p).phase ≡ true)
  -- the passes with a batch number are a prefix of the line, and no number is above the limit
  pub prefix : EachPair (MarkedFirst (batch w)) line
  pub within : (p : ℕ) → IsQueued w p → batch w p ≤ limit
  pub alone : (c : ℕ) → detached ≡ Some c → batch w c ≡ 0
