-- The node of a pass, its next, state and wakeup word: when the pass uses it, and what it is when nobody does.
use Rattle.std.specs.Prelude.{◌≡◌, ◌⊎◌, ◌||◌, ℕ, Bool, true, false, slice_set}
use Rattle.shfl_line.specs.Words.{IsStateWord}
use Rattle.shfl_core.specs.declared.phase.PassState.{PassState}
use Rattle.shfl_core.specs.declared.phase.Phase.{Phase}
use Rattle.shfl_core.specs.declared.phase.Phase.TheVariants.{Init, Swap}
use Rattle.shfl_core.specs.declared.phase.Nap.TheVariants.{Awake}
use Rattle.shfl_core.specs.declared.words.Word.{Word}
use Rattle.shfl_core.specs.declared.words.Word.TheVariants.{Lock, Tail, Next, State, Attr, Bell}
use Rattle.shfl_core.specs.Words.{index}
use Rattle.shfl_core.specs.Phases.{is_queued}
use Rattle.shfl_core.specs.Worlds.{World, known}
use Rattle.shfl_core.specs.Lawful.{Terms}

abbrev pub is_swap : Phase → Bool
is_swap Swap = true
is_swap _ = false

-- the pass uses its node: it is queued, or its next step joins the queue
abbrev pub uses_node : PassState → Bool
uses_node q = is_queued q || is_swap q.phase

-- the words of a node that nobody uses: it has no successor, and nobody woke it; its state word may say anything that a state word says
pub record IsClearNode (next_word state_word bell_word : ℕ) : Type 0 where
  pub next : next_word ≡ 0
  pub formed : IsStateWord state_word
  pub bell : bell_word ≡ 0

-- the pass p, awake, is about to clear its own state word
pub record IsAboutToClear (w : World) (p : ℕ) : Type 0 where
  pub phase : (known w.passes p).phase ≡ Init
  pub awake : (known w.passes p).nap ≡ Awake

-- a word that a step of the pass p may touch: one of the lock's two, an attribute word, a word of a node in use, or the own state word that
-- the pass is about to clear
abbrev pub MayTouch : World → ℕ → Word → Type 0
MayTouch w p Lock = Unit {0}
MayTouch w p Tail = Unit {0}
MayTouch w p (Attr q) = Unit {0}
MayTouch w p (Next q) = uses_node (known w.passes q) ≡ true
MayTouch w p (State q) = (uses_node (known w.passes q) ≡ true) ⊎ ((q ≡ p) × IsAboutToClear w p)
MayTouch w p (Bell q) = uses_node (known w.passes q) ≡ true

-- the same world, but the state word of p says n
abbrev pub with_state : World → ℕ → ℕ → World
with_state w p n = record { words = slice_set w.words (index (State p)) n; passes = w.passes }

-- the same, but the attribute word of p says n; and the same terms
abbrev pub with_attr : World → ℕ → ℕ → World
with_attr w p n = record { words = slice_set w.words (index (Attr p)) n; passes = w.passes }

abbrev pub terms_with_attr : Terms → ℕ → ℕ → Terms
terms_with_attr t p n = record t { attrs = slice_set t.attrs p n }
