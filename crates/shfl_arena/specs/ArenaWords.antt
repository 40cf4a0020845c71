-- The words of an arena, and what each lock sees of them.
use Rattle.std.specs.Prelude.{ℕ, zero, suc, ◌+◌, ◌*◌, Bool, true, false, cond, List, [], ◌∷◌, slice_index, slice_set}
use Rattle.shfl_core.specs.declared.phase.PassState.{PassState}
use Rattle.shfl_core.specs.declared.words.Word.{Word}
use Rattle.shfl_core.specs.declared.words.Word.TheVariants.{Lock, Tail, Next, State, Attr, Bell}
use Rattle.shfl_core.specs.declared.words.Access.{Access}
use Rattle.shfl_core.specs.Words.{site, put}
use Rattle.shfl_core.specs.Worlds.{known}
use Rattle.shfl_arena.specs.declared.shape.Shape.{Shape}
use Rattle.shfl_arena.specs.Nodes.{uses_node}

-- where the lock l has its lock word: every 16 bytes, or, spread, every 128
abbrev pub lock_place : Bool → ℕ → ℕ
lock_place true l = 16 * l
lock_place false l = 2 * l

-- and its tail word: the next one, or, spread, a cache line further
abbrev pub tail_place : Bool → ℕ → ℕ
tail_place true l = 16 * l + 8
tail_place false l = 2 * l + 1

-- where the first node begins: behind all locks and a cache line to spare
abbrev pub first_node : Shape → ℕ
first_node a = lock_place a.spread a.locks + 8

-- the place of a word of the lock l; the nodes are those of all locks
abbrev pub place : Shape → ℕ → Word → ℕ
place a l Lock = lock_place a.spread l
place a l Tail = tail_place a.spread l
place a l (Next p) = first_node a + 10 * p
place a l (State p) = first_node a + 10 * p + 1
place a l (Attr p) = first_node a + 10 * p + 2
place a l (Bell p) = first_node a + 10 * p + 3

-- how many words there are, for so many threads
abbrev pub word_count : Shape → ℕ → ℕ
word_count a threads = first_node a + 10 * threads

-- what a word of the lock l says
abbrev pub word_at : Shape → List ℕ → ℕ → Word → ℕ
word_at a words l v = slice_index words (place a l v)

-- the words after an operation at the lock l
abbrev pub written_at : Shape → List ℕ → ℕ → Access → List ℕ
written_at a words l x = slice_set words (place a l (site x)) (put x (word_at a words l (site x)))

-- what the lock l sees of a word: of a node nothing but zeros, unless its pass here uses it
abbrev pub seen_word : Shape → List ℕ → ℕ → List PassState → Word → ℕ
seen_word a words l passes Lock = word_at a words l Lock
seen_word a words l passes Tail = word_at a words l Tail
seen_word a words l passes (Attr p) = word_at a words l (Attr p)
seen_word a words l passes (Next p) = cond (uses_node (known passes p)) (word_at a words l (Next p)) 0
seen_word a words l passes (State p) = cond (uses_node (known passes p)) (word_at a words l (State p)) 0
seen_word a words l passes (Bell p) = cond (uses_node (known passes p)) (word_at a words l (Bell p)) 0

-- the nodes from the k-th on, n of them, where each word says what `says` has for it
abbrev pub nodes_saying : (Word → ℕ) → ℕ → ℕ → List ℕ
nodes_saying says k zero = []
nodes_saying says k (suc n) = says (Next k) ∷ says (State k) ∷ says (Attr k) ∷ says (Bell k) ∷ 0 ∷ 0 ∷ 0 ∷ 0 ∷ 0 ∷ 0 ∷ nodes_saying says (suc k) n

-- the words of one lock, in the model's order
abbrev pub words_saying : (Word → ℕ) → ℕ → List ℕ
words_saying says threads = says Lock ∷ 0 ∷ 0 ∷ 0 ∷ 0 ∷ 0 ∷ 0 ∷ 0 ∷ 0 ∷ 0 ∷ says Tail ∷ 0 ∷ 0 ∷ 0 ∷ 0 ∷ 0 ∷ 0 ∷ 0 ∷ 0 ∷ 0 ∷ nodes_saying says 0 threads
