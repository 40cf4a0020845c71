-- The opening of an arena, and the threads that come to it.
use Rattle.std.specs.Prelude.{◌≡◌, ℕ, ◌<◌, List, [], ◌∷◌, ◌++◌, map, length, replicate}
use Rattle.shfl_line.specs.declared.words.Attr.{Attr}
use Rattle.shfl_line.specs.Line.{empty}
use Rattle.shfl_line.specs.Words.{attr_word}
use Rattle.shfl_core.specs.declared.phase.Rules.{Rules}
use Rattle.shfl_core.specs.Worlds.{node_words}
use Rattle.shfl_laws.specs.Moves.{MayOpen}
use Rattle.shfl_arena.specs.declared.shape.Shape.{Shape}
use Rattle.shfl_arena.specs.declared.view.ThreadView.{ThreadView}
use Rattle.shfl_arena.specs.Threads.{new_thread}
use Rattle.shfl_arena.specs.ArenaWords.{first_node}
use Rattle.shfl_arena.specs.ArenaRule.{ArenaTerms, ArenaRule}

-- the words at the opening: all 0, but the attribute word of each thread
abbrev pub arena_words : Shape → List Attr → List ℕ
arena_words shape attrs = replicate (first_node shape) 0 ++ node_words attrs

abbrev pub opening_terms : Shape → (ℕ → Rules) → List Attr → ArenaTerms
opening_terms shape rules attrs = record { shape = shape; rules = rules; attrs = map attr_word attrs }

-- an arena that opens: the rule holds, and each lock shows that nobody holds or waits
pub record OpensLawful (a : ArenaTerms) (words : List ℕ) (threads : List ThreadView) : Type 0 where
  pub rule : ArenaRule a words threads
  pub shown : (l : ℕ) (below : l < a.shape.locks) → (rule.lawful l below).shown ≡ empty (length a.attrs)

-- so it is with the first thread
abbrev pub ArenaOpeningLaw : Type 0
ArenaOpeningLaw = (shape : Shape) (rules : ℕ → Rules) (attrs : List Attr) → ((l : ℕ) → l < shape.locks → MayOpen (rules l) attrs) → 0 < length attrs
    → OpensLawful (opening_terms shape rules attrs) (arena_words shape attrs) (new_thread ∷ [])

-- and one more thread may come, with no word changed
abbrev pub ArenaThreadLaw : ArenaTerms → Type 0
ArenaThreadLaw a = (words : List ℕ) (threads : List ThreadView) → ArenaRule a words threads → length threads < length a.attrs → ArenaRule a words (threads ++ new_thread ∷ [])
