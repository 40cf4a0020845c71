-- How an operation treats nodes, which words it leaves, and whose passes.
use Rattle.std.proofs.Common.{◌≡◌, ◌≢◌, ℕ, ◌+◌, ◌<◌, ◌⊎◌, true, false, cond, List, set, refl, ap, ◌∙◌, arith}
use mathlib.Core.Option.{some}
use lib.ListN.{get_elem?}
use Rattle.shfl_line.specs.declared.events.LineEvent.{LineEvent}
use Rattle.shfl_line.specs.declared.events.LineEvent.TheVariants.{Nothing}
use Rattle.shfl_core.specs.declared.phase.PassState.{PassState}
use Rattle.shfl_core.specs.declared.words.Word.{Word}
use Rattle.shfl_core.specs.declared.words.Word.TheVariants.{Lock, Tail, Next, State, Attr, Bell}
use Rattle.shfl_core.specs.declared.words.Access.{Access}
use Rattle.shfl_core.specs.Words.{index, site, put}
use Rattle.shfl_core.specs.Waiting.{idle}
use Rattle.shfl_core.specs.Worlds.{World, known}
use Rattle.shfl_core.specs.Lawful.{Terms, Lawful, Advances}
use Rattle.shfl_core.proofs.Lists.{seen-at}
use Rattle.shfl_arena.specs.Nodes.{uses_node}
use Rattle.shfl_arena.specs.declared.view.ThreadView.{ThreadView}
use Rattle.shfl_arena.specs.Threads.{new_thread, thread_at, pass_at, passes_from}
use Rattle.shfl_arena.specs.declared.shape.Shape.{Shape}
use Rattle.shfl_arena.specs.ArenaWords.{word_at, written_at, seen_word}
use Rattle.shfl_arena.proofs.Places.{is_own, same-place, word_at-else}
use Rattle.shfl_arena.proofs.Threads.{passes-set, passes-at}

-- the word is the lock's, or of a node in use
abbrev pub IsOpen : List PassState → Word → Type 0
IsOpen passes Lock = Unit {0}
IsOpen passes Tail = Unit {0}
IsOpen passes (Attr r) = Unit {0}
IsOpen passes (Next r) = uses_node (known passes r) ≡ true
IsOpen passes (State r) = uses_node (known passes r) ≡ true
IsOpen passes (Bell r) = uses_node (known passes r) ≡ true

pub seen-open : (a : Shape) (words : List ℕ) (l : ℕ) (passes : List PassState) (u : Word) → IsOpen passes u → seen_word a words l passes u ≡ word_at a words l u
seen-open a words l passes Lock o = refl
seen-open a words l passes Tail o = refl
seen-open a words l passes (Attr r) o = refl
seen-open a words l passes (Next r) o = ap (λ b. cond b (word_at a words l (Next r)) 0) o
seen-open a words l passes (State r) o = ap (λ b. cond b (word_at a words l (State r)) 0) o
seen-open a words l passes (Bell r) o = ap (λ b. cond b (word_at a words l (Bell r)) 0) o

-- one move after another, the second one unseen
pub and-then : (t : Terms) (w w1 w2 : World) (ok : Lawful t w) (e : LineEvent) → Advances t w ok e w1 → ((ok1 : Lawful t w1) → Advances t w1 ok1 Nothing w2) → Advances t w ok e w2
and-then t w w1 w2 ok e a b = let c = b a.lawful in record { lawful = c.lawful; admitted = a.admitted; shown = c.shown ∙ a.shown }

-- how an operation treats nodes: it touches one in use, if any, and nobody begins to use one; or the pass clears its own state word and begins
abbrev pub Touches : List PassState → ℕ → PassState → PassState → Word → ℕ → Type 0
Touches passes k before q u made = (IsOpen passes u × (uses_node q ≡ true → uses_node before ≡ true)) ⊎ ((u ≡ State k) × (made ≡ 0) × (uses_node before ≡ false) × (uses_node q ≡ true))

-- another word than the one of the operation is left, and so are the two words of every other lock
pub else-kept : (a : Shape) (words : List ℕ) (l : ℕ) (x : Access) (m : ℕ) (u : Word) → m < a.locks → l < a.locks → index u ≢ index (site x) → word_at a (written_at a words l x) m u ≡ word_at a words m u
else-kept a words l x m u h below n = word_at-else a words l (site x) (put x (word_at a words l (site x))) m u (λ e. n (same-place a m l h below u (site x) e).0)

pub own-kept : (a : Shape) (words : List ℕ) (l : ℕ) (x : Access) (m : ℕ) (u : Word) → m < a.locks → l < a.locks → m ≢ l → is_own u ≡ true → word_at a (written_at a words l x) m u ≡ word_at a words m u
own-kept a words l x m u h below n o = word_at-else a words l (site x) (put x (word_at a words l (site x))) m u (λ e. n ((same-place a m l h below u (site x) e).1 o))

-- the passes of the thread k
module _ (threads : List ThreadView) (k : ℕ) (v : ThreadView) (at : get_elem? threads k ≡ some v) where
  pub there-is : thread_at threads k ≡ v
  there-is = (seen-at threads k v new_thread at).0

  pub pass-there : (m : ℕ) → get_elem? (passes_from m 0 threads) k ≡ some (pass_at m k v)
  pass-there m = passes-at m 0 threads k v at ∙ ap (λ n. some (pass_at m n v)) (let e : 0 + k ≡ k = omega arith in e)

  pub was-known : (m : ℕ) → known (passes_from m 0 threads) k ≡ pass_at m k v
  was-known m = (seen-at (passes_from m 0 threads) k (pass_at m k v) (idle k) (pass-there m)).0

  pub passes-here : (m : ℕ) (w : ThreadView) → passes_from m 0 (set threads k w) ≡ set (passes_from m 0 threads) k (pass_at m k w)
  passes-here m w = passes-set m 0 threads k w ∙ ap (λ n. set (passes_from m 0 threads) k (pass_at m n w)) (let e : 0 + k ≡ k = omega arith in e)
