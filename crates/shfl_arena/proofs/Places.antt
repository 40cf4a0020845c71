-- The words of an arena: what each place says, and which places are one.
use Rattle.std.proofs.Common.{◌≡◌, ◌≢◌, ℕ, zero, suc, ◌+◌, ◌*◌, ◌<◌, ◌≤◌, Bool, true, false, cond, List, length, get_or, set, get_or-set_same, get_or-set_other, refl, sym, ap, ◌∙◌, ⊎_elim, arith}
use Rattle.shfl_core.specs.declared.words.Word.{Word}
use Rattle.shfl_core.specs.declared.words.Word.TheVariants.{Lock, Tail, Next, State, Attr, Bell}
use Rattle.shfl_core.specs.Words.{look, index, wide}
use Rattle.shfl_core.specs.declared.phase.PassState.{PassState}
use Rattle.shfl_core.specs.Worlds.{known}
use Rattle.shfl_core.proofs.Lists.{past, below-or}
use Rattle.shfl_arena.specs.declared.shape.Shape.{Shape}
use Rattle.shfl_arena.specs.Nodes.{uses_node}
use Rattle.shfl_arena.specs.ArenaWords.{lock_place, tail_place, place, word_count, word_at, seen_word, nodes_saying, words_saying}

nodes-long : (f : Word → ℕ) (k n : ℕ) → length (nodes_saying f k n) ≡ 10 * n
nodes-long f k zero = refl
nodes-long f k (suc n) = let e = nodes-long f (suc k) n in omega arith

pub words-long : (f : Word → ℕ) (n : ℕ) → length (words_saying f n) ≡ wide n
words-long f n = let e = nodes-long f 0 n in omega arith

node-skip : (f : Word → ℕ) (k n m i : ℕ) → i ≡ m + 10 → get_or (nodes_saying f k (suc n)) i 0 ≡ get_or (nodes_saying f (suc k) n) m 0
node-skip f k n m i e = ap (λ z. get_or (nodes_saying f k (suc n)) z 0) (let x : i ≡ suc (suc (suc (suc (suc (suc (suc (suc (suc (suc m))))))))) = omega arith in x)

node-at : (f : Word → ℕ) (W : ℕ → Word) (r : ℕ) → ((k n : ℕ) → get_or (nodes_saying f k (suc n)) r 0 ≡ f (W k)) → (k n j i : ℕ) → j < n → i ≡ 10 * j + r → get_or (nodes_saying f k n) i 0 ≡ f (W (k + j))
node-at f W r here k zero j i h e = absurd (omega arith)
node-at f W r here k (suc n) zero i h e = ap (λ z. get_or (nodes_saying f k (suc n)) z 0) (let x : i ≡ r = omega arith in x) ∙ (here k n ∙ ap (λ z. f (W z)) (let x : k ≡ k + 0 = omega arith in x))
node-at f W r here k (suc n) (suc j) i h e = node-skip f k n (10 * j + r) i (omega arith) ∙ (node-at f W r here (suc k) n j (10 * j + r) (omega arith) refl ∙ ap (λ z. f (W z)) (let x : suc k + j ≡ k + suc j = omega arith in x))

head-skip : (f : Word → ℕ) (n m i : ℕ) → i ≡ m + 20 → get_or (words_saying f n) i 0 ≡ get_or (nodes_saying f 0 n) m 0
head-skip f n m i e = ap (λ z. get_or (words_saying f n) z 0) (let x : i ≡ suc (suc (suc (suc (suc (suc (suc (suc (suc (suc (suc (suc (suc (suc (suc (suc (suc (suc (suc (suc m))))))))))))))))))) = omega arith in x)

-- each word says what f says of it
pub words-at : (f : Word → ℕ) (n : ℕ) (v : Word) → index v < wide n → look (words_saying f n) v ≡ f v
words-at f n Lock h = refl
words-at f n Tail h = refl
words-at f n (Next p) h = head-skip f n (10 * p) (10 * p + 20) (omega arith) ∙ (node-at f Next 0 (λ k n. refl) 0 n p (10 * p) (omega arith) (omega arith) ∙ ap (λ z. f (Next z)) (let x : 0 + p ≡ p = omega arith in x))
words-at f n (State p) h = head-skip f n (10 * p + 1) (10 * p + 21) (omega arith) ∙ (node-at f State 1 (λ k n. refl) 0 n p (10 * p + 1) (omega arith) refl ∙ ap (λ z. f (State z)) (let x : 0 + p ≡ p = omega arith in x))
words-at f n (Attr p) h = head-skip f n (10 * p + 2) (10 * p + 22) (omega arith) ∙ (node-at f Attr 2 (λ k n. refl) 0 n p (10 * p + 2) (omega arith) refl ∙ ap (λ z. f (Attr z)) (let x : 0 + p ≡ p = omega arith in x))
words-at f n (Bell p) h = head-skip f n (10 * p + 3) (10 * p + 23) (omega arith) ∙ (node-at f Bell 3 (λ k n. refl) 0 n p (10 * p + 3) (omega arith) refl ∙ ap (λ z. f (Bell z)) (let x : 0 + p ≡ p = omega arith in x))

-- two lists that say the same of each word that is there say the same of all
pub alike-words : (l m : List ℕ) (n : ℕ) → length l ≡ wide n → length m ≡ wide n → ((v : Word) → index v < wide n → look l v ≡ look m v) → (v : Word) → look l v ≡ look m v
alike-words l m n a b h v = ⊎_elim (λ c. h v c) (λ c. past l (index v) 0 (let x : length l ≤ index v = omega arith in x) ∙ sym (past m (index v) 0 (let x : length m ≤ index v = omega arith in x))) (below-or (index v) (wide n))

lock-apart : (b : Bool) (m l : ℕ) → (lock_place b m ≡ lock_place b l → m ≡ l) × (tail_place b m ≢ lock_place b l) × (tail_place b m ≡ tail_place b l → m ≡ l)
lock-apart true m l = ((λ e. omega arith), (λ e. omega arith), λ e. omega arith)
lock-apart false m l = ((λ e. omega arith), (λ e. omega arith), λ e. omega arith)

pub lock-room : (b : Bool) (m n : ℕ) → m < n → (lock_place b m < lock_place b n) × (tail_place b m < lock_place b n)
lock-room true m n h = (omega arith, omega arith)
lock-room false m n h = (omega arith, omega arith)

-- the lock word and the tail word are those of one lock, any other word is shared
abbrev pub is_own : Word → Bool
is_own Lock = true
is_own Tail = true
is_own _ = false

module _ (a : Shape) (m l : ℕ) (hm : m < a.locks) (hl : l < a.locks) where
  pub same-place : (u v : Word) → place a m u ≡ place a l v → (index u ≡ index v) × (is_own u ≡ true → m ≡ l)
  same-place Lock Lock e = (refl, λ _. (lock-apart a.spread m l).0 e)
  same-place Lock Tail e = absurd ((lock-apart a.spread l m).1 (sym e))
  same-place Lock (Next r) e = absurd (let f = lock-room a.spread m a.locks hm in let x = f.0 in let y = f.1 in omega arith)
  same-place Lock (State r) e = absurd (let f = lock-room a.spread m a.locks hm in let x = f.0 in let y = f.1 in omega arith)
  same-place Lock (Attr r) e = absurd (let f = lock-room a.spread m a.locks hm in let x = f.0 in let y = f.1 in omega arith)
  same-place Lock (Bell r) e = absurd (let f = lock-room a.spread m a.locks hm in let x = f.0 in let y = f.1 in omega arith)
  same-place Tail Lock e = absurd ((lock-apart a.spread m l).1 e)
  same-place Tail Tail e = (refl, λ _. (lock-apart a.spread m l).2 e)
  same-place Tail (Next r) e = absurd (let f = lock-room a.spread m a.locks hm in let x = f.0 in let y = f.1 in omega arith)
  same-place Tail (State r) e = absurd (let f = lock-room a.spread m a.locks hm in let x = f.0 in let y = f.1 in omega arith)
  same-place Tail (Attr r) e = absurd (let f = lock-room a.spread m a.locks hm in let x = f.0 in let y = f.1 in omega arith)
  same-place Tail (Bell r) e = absurd (let f = lock-room a.spread m a.locks hm in let x = f.0 in let y = f.1 in omega arith)
  same-place (Next p) Lock e = absurd (let f = lock-room a.spread l a.locks hl in let x = f.0 in let y = f.1 in omega arith)
  same-place (Next p) Tail e = absurd (let f = lock-room a.spread l a.locks hl in let x = f.0 in let y = f.1 in omega arith)
  same-place (Next p) (Next r) e = (omega arith, λ z. absurd (cc))
  same-place (Next p) (State r) e = absurd (omega arith)
  same-place (Next p) (Attr r) e = absurd (omega arith)
  same-place (Next p) (Bell r) e = absurd (omega arith)
  same-place (State p) Lock e = absurd (let f = lock-room a.spread l a.locks hl in let x = f.0 in let y = f.1 in omega arith)
  same-place (State p) Tail e = absurd (let f = lock-room a.spread l a.locks hl in let x = f.0 in let y = f.1 in omega arith)
  same-place (State p) (Next r) e = absurd (omega arith)
  same-place (State p) (State r) e = (omega arith, λ z. absurd (cc))
  same-place (State p) (Attr r) e = absurd (omega arith)
  same-place (State p) (Bell r) e = absurd (omega arith)
  same-place (Attr p) Lock e = absurd (let f = lock-room a.spread l a.locks hl in let x = f.0 in let y = f.1 in omega arith)
  same-place (Attr p) Tail e = absurd (let f = lock-room a.spread l a.locks hl in let x = f.0 in let y = f.1 in omega arith)
  same-place (Attr p) (Next r) e = absurd (omega arith)
  same-place (Attr p) (State r) e = absurd (omega arith)
  same-place (Attr p) (Attr r) e = (omega arith, λ z. absurd (cc))
  same-place (Attr p) (Bell r) e = absurd (omega arith)
  same-place (Bell p) Lock e = absurd (let f = lock-room a.spread l a.locks hl in let x = f.0 in let y = f.1 in omega arith)
  same-place (Bell p) Tail e = absurd (let f = lock-room a.spread l a.locks hl in let x = f.0 in let y = f.1 in omega arith)
  same-place (Bell p) (Next r) e = absurd (omega arith)
  same-place (Bell p) (State r) e = absurd (omega arith)
  same-place (Bell p) (Attr r) e = absurd (omega arith)
  same-place (Bell p) (Bell r) e = (omega arith, λ z. absurd (cc))

pub place-there : (a : Shape) (l count : ℕ) (v : Word) → l < a.locks → index v < wide count → place a l v < word_count a count
place-there a l count Lock h i = let f = lock-room a.spread l a.locks h in let x = f.0 in let y = f.1 in omega arith
place-there a l count Tail h i = let f = lock-room a.spread l a.locks h in let x = f.0 in let y = f.1 in omega arith
place-there a l count (Next p) h i = omega arith
place-there a l count (State p) h i = omega arith
place-there a l count (Attr p) h i = omega arith
place-there a l count (Bell p) h i = omega arith

-- a lock sees of a word what it saw before, where the word says the same
pub seen-same : (a : Shape) (words words' : List ℕ) (l : ℕ) (passes : List PassState) (u : Word) → word_at a words' l u ≡ word_at a words l u → seen_word a words' l passes u ≡ seen_word a words l passes u
seen-same a words words' l passes Lock e = e
seen-same a words words' l passes Tail e = e
seen-same a words words' l passes (Attr r) e = e
seen-same a words words' l passes (Next r) e = ap (λ z. cond (uses_node (known passes r)) z 0) e
seen-same a words words' l passes (State r) e = ap (λ z. cond (uses_node (known passes r)) z 0) e
seen-same a words words' l passes (Bell r) e = ap (λ z. cond (uses_node (known passes r)) z 0) e

-- a word is written
pub word_at-same : (a : Shape) (words : List ℕ) (l : ℕ) (v : Word) (n : ℕ) → place a l v < length words → word_at a (set words (place a l v) n) l v ≡ n
word_at-same a words l v n h = get_or-set_same words (place a l v) n 0 h

pub word_at-else : (a : Shape) (words : List ℕ) (l : ℕ) (v : Word) (n m : ℕ) (u : Word) → place a m u ≢ place a l v → word_at a (set words (place a l v) n) m u ≡ word_at a words m u
word_at-else a words l v n m u h = get_or-set_other words (place a l v) (place a m u) n 0 h
