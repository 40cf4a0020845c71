-- On which cache line a word stands, and whose it is.
use Rattle.std.specs.Prelude.{ℕ, ◌+◌, ◌*◌, ◌/◌}
use Rattle.shfl_core.specs.declared.words.Word.{Word}
use Rattle.shfl_core.specs.declared.words.Word.TheVariants.{Lock, Tail, Next, State, Attr, Bell}
use Rattle.shfl_core.specs.Words.{index}

-- the cache line of 64 bytes, where the list begins at this address
abbrev pub cache_line : ℕ → Word → ℕ
cache_line start w = (start + 8 * index w) / 64

-- the lock word has the number 0, the tail word 1, and the words of a pass have the pass's number and 2 more
abbrev pub group : Word → ℕ
group Lock = 0
group Tail = 1
group (Next p) = p + 2
group (State p) = p + 2
group (Attr p) = p + 2
group (Bell p) = p + 2
