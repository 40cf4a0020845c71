-- The rule of an arena: each lock of it is a lawful world, by the model's definition, and a node that nobody uses is clear.
use Rattle.std.specs.Prelude.{◌≡◌, ◌≢◌, ℕ, ◌<◌, false, List, length}
use Rattle.shfl_line.specs.declared.events.LineEvent.{LineEvent}
use Rattle.shfl_line.specs.declared.events.LineEvent.TheVariants.{Nothing}
use Rattle.shfl_core.specs.declared.phase.Rules.{Rules}
use Rattle.shfl_core.specs.declared.words.Word.TheVariants.{Next, State, Bell}
use Rattle.shfl_core.specs.Worlds.{World}
use Rattle.shfl_core.specs.Lawful.{Terms, Lawful, Advances}
use Rattle.shfl_arena.specs.Nodes.{IsClearNode}
use Rattle.shfl_arena.specs.declared.shape.Shape.{Shape}
use Rattle.shfl_arena.specs.declared.view.ThreadView.{ThreadView}
use Rattle.shfl_arena.specs.Threads.{thread_at, uses_own_node, passes_from}
use Rattle.shfl_arena.specs.ArenaWords.{word_count, word_at, seen_word, words_saying}

-- the shape, the rules of each lock, and the attribute word of each thread
pub record ArenaTerms : Type 0 where
  pub shape : Shape
  pub rules : ℕ → Rules
  pub attrs : List ℕ

abbrev pub terms_at : ArenaTerms → ℕ → Terms
terms_at a l = record { rules = a.rules l; attrs = a.attrs }

-- the world of the lock l: the words as it sees them, and the passes of all threads there
abbrev pub world_at : ArenaTerms → List ℕ → List ThreadView → ℕ → World
world_at a words threads l = record { words = words_saying (seen_word a.shape words l (passes_from l 0 threads)) (length a.attrs); passes = passes_from l 0 threads }

pub record ArenaRule (a : ArenaTerms) (words : List ℕ) (threads : List ThreadView) : Type 0 where
  pub room : length words ≡ word_count a.shape (length a.attrs)
  -- each lock is lawful, whatever the other locks do
  pub lawful : (l : ℕ) → l < a.shape.locks → Lawful (terms_at a l) (world_at a words threads l)
  -- a node that its thread doesn't use is clear
  pub clear : (k : ℕ) → k < length a.attrs → uses_own_node (thread_at threads k) ≡ false → IsClearNode (word_at a.shape words 0 (Next k)) (word_at a.shape words 0 (State k)) (word_at a.shape words 0 (Bell k))

-- what an operation at the lock l leaves: the rule; one admitted step of that lock's line, the named one; and every other lock's line as it was
pub record KeepsArena (a : ArenaTerms) (words : List ℕ) (threads : List ThreadView) (ok : ArenaRule a words threads) (l : ℕ) (below : l < a.shape.locks) (e : LineEvent) (words' : List ℕ) (threads' : List ThreadView) : Type 0 where
  pub rule : ArenaRule a words' threads'
  pub here : Advances (terms_at a l) (world_at a words threads l) (ok.lawful l below) e (world_at a words' threads' l)
  pub elsewhere : (m : ℕ) (other : m < a.shape.locks) → m ≢ l → Advances (terms_at a m) (world_at a words threads m) (ok.lawful m other) Nothing (world_at a words' threads' m)
