-- The lock word, the tail word and the words of each pass stand on cache lines of their own, at whatever multiple of 16 bytes the list begins.
use Rattle.std.proofs.Common.{◌≡◌, ◌≢◌, ℕ, ◌+◌, ◌*◌, ◌%◌, ◌≤◌, arith}
use Rattle.shfl_core.specs.declared.words.Word.{Word}
use Rattle.shfl_core.specs.declared.words.Word.TheVariants.{Lock, Tail, Next, State, Attr, Bell}
use Rattle.shfl_core.specs.Words.{index}
use Rattle.shfl_core.specs.CacheLines.{cache_line, group}

within : (w : Word) → (10 * group w ≤ index w) × (index w ≤ 10 * group w + 3)
within Lock = (omega arith, omega arith)
within Tail = (omega arith, omega arith)
within (Next p) = (omega arith, omega arith)
within (State p) = (omega arith, omega arith)
within (Attr p) = (omega arith, omega arith)
within (Bell p) = (omega arith, omega arith)

pub cache-lines-apart : (start : ℕ) (v w : Word) → start % 16 ≡ 0 → group v ≢ group w → cache_line start v ≢ cache_line start w
cache-lines-apart start v w aligned apart same = let a = within v in let b = within w in omega arith
