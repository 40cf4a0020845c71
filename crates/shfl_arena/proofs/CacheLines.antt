-- The words of different threads stand on different cache lines, and so do, spread, the words of the locks.
use Rattle.std.proofs.Common.{◌≡◌, ◌≢◌, ℕ, ◌+◌, ◌*◌, ◌/◌, ◌%◌, ◌<◌, ◌≤◌, Bool, true, false, ap, ◌∙◌, arith}
use Rattle.std.specs.Prelude.{Option, Some, None}
use Rattle.shfl_core.specs.declared.words.Word.{Word}
use Rattle.shfl_core.specs.declared.words.Word.TheVariants.{Lock, Tail, Next, State, Attr, Bell}
use Rattle.shfl_arena.specs.declared.shape.Shape.{Shape}
use Rattle.shfl_arena.specs.ArenaWords.{lock_place, tail_place, first_node, place}
use Rattle.shfl_arena.specs.CacheLines.{owner, ApartLaw}
use Rattle.shfl_arena.proofs.Places.{lock-room}

abbrev or-zero : Option ℕ → ℕ
or-zero None = 0
or-zero (Some n) = n

-- the four words of a node lie together, and the first at an even place
within : (a : Shape) (l q : ℕ) (w : Word) → owner w ≡ Some q → (first_node a + 10 * q ≤ place a l w) × (place a l w ≤ first_node a + 10 * q + 3)
within a l q Lock e = absurd (cc)
within a l q Tail e = absurd (cc)
within a l q (Next p) e = let i : p ≡ q = ap or-zero e in (omega arith, omega arith)
within a l q (State p) e = let i : p ≡ q = ap or-zero e in (omega arith, omega arith)
within a l q (Attr p) e = let i : p ≡ q = ap or-zero e in (omega arith, omega arith)
within a l q (Bell p) e = let i : p ≡ q = ap or-zero e in (omega arith, omega arith)

even : (b : Bool) (n : ℕ) → lock_place b n % 2 ≡ 0
even true n = omega arith
even false n = omega arith

before : (a : Shape) (l : ℕ) (w : Word) → l < a.locks → owner w ≡ None → place a l w < lock_place a.spread a.locks
before a l Lock h e = (lock-room a.spread l a.locks h).0
before a l Tail h e = (lock-room a.spread l a.locks h).1
before a l (Next p) h e = absurd (cc)
before a l (State p) h e = absurd (cc)
before a l (Attr p) h e = absurd (cc)
before a l (Bell p) h e = absurd (cc)

eighth : (a : Shape) (l : ℕ) (w : Word) → a.spread ≡ true → owner w ≡ None → place a l w % 8 ≡ 0
eighth a l Lock s e = ap (λ b. lock_place b l % 8) s ∙ (let x : (16 * l) % 8 ≡ 0 = omega arith in x)
eighth a l Tail s e = ap (λ b. tail_place b l % 8) s ∙ (let x : (16 * l + 8) % 8 ≡ 0 = omega arith in x)
eighth a l (Next p) s e = absurd (cc)
eighth a l (State p) s e = absurd (cc)
eighth a l (Attr p) s e = absurd (cc)
eighth a l (Bell p) s e = absurd (cc)

nodes-apart : (start f i j p q : ℕ) → start % 16 ≡ 0 → f % 2 ≡ 0 → p ≢ q → f + 10 * p ≤ i → i ≤ f + 10 * p + 3 → f + 10 * q ≤ j → j ≤ f + 10 * q + 3 → (start + 8 * i) / 64 ≢ (start + 8 * j) / 64
nodes-apart start f i j p q aligned e apart a b c d same = omega arith

pub apart-law : ApartLaw
apart-law a start aligned = record {
  threads = λ l m p q v w x y n. (let i = within a l p v x in let j = within a m q w y in let f : first_node a % 2 ≡ 0 = (let z = even a.spread a.locks in omega arith) in
      nodes-apart start (first_node a) (place a l v) (place a m w) p q aligned f n i.0 i.1 j.0 j.1);
  locks = λ l m q v w h x y same. (let i = before a l v h x in let j = within a m q w y in let k = j.0 in omega arith);
  spread = λ s l m v w x y n same. (let i = eighth a l v s x in let j = eighth a m w s y in n (omega arith));
}
