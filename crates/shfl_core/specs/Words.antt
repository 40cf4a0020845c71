-- The words of a lock: where each stands in the list, what it says, and what an operation makes of it.
use Rattle.std.specs.Prelude.{ℕ, ◌+◌, ◌-◌, ◌*◌, ◌%◌, ◌^◌, ◌≤◌, ◌==◌, ◌&&◌, not, Bool, true, false, List, bit_and, bit_or, bit_xor, slice_index, slice_set}
use prog.Atomic.{either}
use Rattle.shfl_line.specs.declared.events.Mode.{Mode}
use Rattle.shfl_line.specs.declared.events.Mode.TheVariants.{Write, Read}
use Rattle.shfl_line.specs.Words.{held_of, readers_of}
use Rattle.shfl_core.specs.declared.words.Word.{Word}
use Rattle.shfl_core.specs.declared.words.Word.TheVariants.{Lock, Tail, Next, State, Attr, Bell}
use Rattle.shfl_core.specs.declared.words.Access.{Access}
use Rattle.shfl_core.specs.declared.words.Access.TheVariants.{Load, Store, Swap, CompareSwap, Or, And, Xor, Add, Sub}

-- the place of a word: ten words for the lock word, ten for the tail word, and ten for the four words of each pass
abbrev pub index : Word → ℕ
index Lock = 0
index Tail = 10
index (Next p) = 10 * p + 20
index (State p) = 10 * p + 21
index (Attr p) = 10 * p + 22
index (Bell p) = 10 * p + 23

-- so many passes a lock may have: their numbers, and the lock word's count of readers, have 32 bits
abbrev pub most_passes : ℕ
most_passes = 65535

-- the number of words of a lock for so many passes
abbrev pub wide : ℕ → ℕ
wide count = 10 * count + 20

-- what a word of the list says
abbrev pub look : List ℕ → Word → ℕ
look words w = slice_index words (index w)

-- the word that an operation touches
abbrev pub site : Access → Word
site (Load w) = w
site (Store w v) = w
site (Swap w v) = w
site (CompareSwap w old new) = w
site (Or w v) = w
site (And w v) = w
site (Xor w v) = w
site (Add w v) = w
site (Sub w v) = w

-- the word after the operation, where n was found
abbrev pub put : Access → ℕ → ℕ
put (Load w) n = n
put (Store w v) n = v
put (Swap w v) n = v
put (CompareSwap w old new) n = either (n == old) new n
put (Or w v) n = bit_or n v
put (And w v) n = bit_and n v
put (Xor w v) n = bit_xor n v
put (Add w v) n = (n + v) % 2 ^ 64
put (Sub w v) n = (n + (2 ^ 64 - v)) % 2 ^ 64

-- the words after the operation
abbrev pub written : List ℕ → Access → List ℕ
written words a = slice_set words (index (site a)) (put a (look words (site a)))

abbrev pub is_store : Access → Bool
is_store (Store w v) = true
is_store _ = false

-- what the operation tells: the word that it found, or, of a store, the one that it stored
abbrev pub told : Access → ℕ → ℕ
told (Store w v) n = v
told _ n = n

-- the lock is free for a writer where nobody holds or is counted, and for a reader where no writer holds
abbrev pub free_for : Mode → ℕ → Bool
free_for Write n = not (held_of n) && (readers_of n == 0)
free_for Read n = not (held_of n)

-- a next word or the tail word is 0 or a pass plus 1, and passes are numbered within 32 bits; no other word is bound
abbrev pub NamesPass : Word → ℕ → Type 0
NamesPass Tail n = n ≤ 4294967296
NamesPass (Next p) n = n ≤ 4294967296
NamesPass _ n = Unit {0}
