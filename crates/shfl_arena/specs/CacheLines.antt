-- On which cache line a word stands, and whose it is.
use Rattle.std.specs.Prelude.{◌≡◌, ◌≢◌, ℕ, ◌+◌, ◌*◌, ◌/◌, ◌%◌, ◌<◌, true, Option, Some, None}
use Rattle.shfl_core.specs.declared.words.Word.{Word}
use Rattle.shfl_core.specs.declared.words.Word.TheVariants.{Lock, Tail, Next, State, Attr, Bell}
use Rattle.shfl_arena.specs.declared.shape.Shape.{Shape}
use Rattle.shfl_arena.specs.ArenaWords.{place}

-- the cache line of 64 bytes of a word of the lock l, where the words begin at this address
abbrev pub cache_line : ℕ → Shape → ℕ → Word → ℕ
cache_line start a l w = (start + 8 * place a l w) / 64

-- the thread whose node has the word; the lock word and the tail word are no thread's
abbrev pub owner : Word → Option ℕ
owner Lock = None
owner Tail = None
owner (Next p) = Some p
owner (State p) = Some p
owner (Attr p) = Some p
owner (Bell p) = Some p

-- at whatever multiple of 16 bytes the words begin
pub record WordsStandApart (a : Shape) (start : ℕ) : Type 0 where
  -- words of different threads stand on different lines
  pub threads : (l m p q : ℕ) (v w : Word) → owner v ≡ Some p → owner w ≡ Some q → p ≢ q → cache_line start a l v ≢ cache_line start a m w
  -- and no word of a lock stands on the line of a thread's
  pub locks : (l m q : ℕ) (v w : Word) → l < a.locks → owner v ≡ None → owner w ≡ Some q → cache_line start a l v ≢ cache_line start a m w
  -- spread, the words of the locks have each its own line
  pub spread : a.spread ≡ true → (l m : ℕ) (v w : Word) → owner v ≡ None → owner w ≡ None → place a l v ≢ place a m w → cache_line start a l v ≢ cache_line start a m w

abbrev pub ApartLaw : Type 0
ApartLaw = (a : Shape) (start : ℕ) → start % 16 ≡ 0 → WordsStandApart a start
