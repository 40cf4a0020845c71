-- The words and the passes of a lock at its opening.
use Rattle.std.proofs.Common.{◌≡◌, ℕ, zero, suc, ◌+◌, ◌*◌, ◌<◌, ◌≤◌, List, [], ◌∷◌, ◌++◌, ◌-◌, length, get_or, set, take, replicate, refl, sym, ap, ◌∙◌, subst, ◌⊎◌, inl, inr, ⊎_elim, length-take, length-append, arith}
use Rattle.std.proofs.lemmas.List.{take_more, take_all, append_assoc, append-nil, get_or-append-add, set-append_right}
use mathlib.Core.Option.{some, some-injective, some-ne-none}
use lib.ListN.{get_elem?}
use Rattle.shfl_line.specs.declared.words.Attr.{Attr}
use Rattle.shfl_line.specs.Words.{attr_word}
use Rattle.shfl_core.specs.declared.phase.PassState.{PassState}
use Rattle.shfl_core.specs.declared.phase.Rules.{Rules}
use Rattle.shfl_core.specs.declared.words.Word.{Word}
use Rattle.shfl_core.specs.declared.words.Word.TheVariants.{Tail, Next}
use Rattle.shfl_core.specs.Words.{look, most_passes}
use Rattle.shfl_core.specs.Waiting.{Meaning, idle, fresh}
use Rattle.shfl_core.specs.Worlds.{node, node_words, opening_words, idle_from, opening}
use Rattle.shfl_core.specs.Bounds.{HasBounds, IsInBounds, LinkBelow}
use Rattle.shfl_core.specs.Runner.{IsLock, standing, common_rules, seen_lock, opened}
use Rattle.shfl_core.proofs.Standing.{standing-long}

pub node-words-append : (xs : List Attr) (a : Attr) → node_words (xs ++ a ∷ []) ≡ node_words xs ++ node (attr_word a)
node-words-append [] a = refl
node-words-append (x ∷ xs) a = ap (λ l. node (attr_word x) ++ l) (node-words-append xs a)

pub node-words-long : (xs : List Attr) → length (node_words xs) ≡ 10 * length xs
node-words-long [] = refl
node-words-long (x ∷ xs) = let e = node-words-long xs in omega arith

pub idle-from-append : (p : ℕ) (xs : List Attr) (a : Attr) → idle_from p (xs ++ a ∷ []) ≡ idle_from p xs ++ idle (p + length xs) ∷ []
idle-from-append p [] a = ap (λ n. idle n ∷ []) (let e : p ≡ p + 0 = omega arith in e)
idle-from-append p (x ∷ xs) a = ap (λ l. idle p ∷ l) (idle-from-append (suc p) xs a ∙ ap (λ n. idle_from (suc p) xs ++ idle n ∷ []) (let e : suc p + length xs ≡ p + suc (length xs) = omega arith in e))

pub idle-from-long : (p : ℕ) (xs : List Attr) → length (idle_from p xs) ≡ length xs
idle-from-long p [] = refl
idle-from-long p (x ∷ xs) = ap suc (idle-from-long (suc p) xs)

pub idle-from-at : (p : ℕ) (xs : List Attr) (i : ℕ) (q : PassState) → get_elem? (idle_from p xs) i ≡ some q → (q ≡ idle (p + i)) × (i < length xs)
idle-from-at p [] i q e = absurd (some-ne-none q (sym e))
idle-from-at p (x ∷ xs) zero q e = (sym (some-injective (idle p) q e) ∙ ap idle (let e : p ≡ p + 0 = omega arith in e), omega arith)
idle-from-at p (x ∷ xs) (suc i) q e = let t = idle-from-at (suc p) xs i q e in (t.0 ∙ ap idle (let e : suc p + i ≡ p + suc i = omega arith in e), (let u = t.1 in omega arith))

abbrev zeros : ℕ → List ℕ
zeros n = replicate n 0

zeros-add : (m n : ℕ) → zeros (m + n) ≡ zeros m ++ zeros n
zeros-add zero n = let e : zero + n ≡ n = omega arith in ap zeros e
zeros-add (suc m) n = let e : suc m + n ≡ suc (m + n) = omega arith in ap zeros e ∙ ap (λ l. 0 ∷ l) (zeros-add m n)

-- behind the words of one pass those of the others stand as ever
pub node-past : (x : Attr) (xs : List Attr) (q k : ℕ) → get_or (node_words (x ∷ xs)) (10 * suc q + k) 0 ≡ get_or (node_words xs) (10 * q + k) 0
node-past x xs q k = let e : 10 * suc q + k ≡ 10 + (10 * q + k) = omega arith in ap (λ n. get_or (node_words (x ∷ xs)) n 0) e ∙ get_or-append-add (node (attr_word x)) (node_words xs) (10 * q + k) 0

-- behind the lock word and the tail word stand the words of the passes
pub opening-at : (xs : List Attr) (q k i : ℕ) → i ≡ 10 * q + 20 + k → get_or (opening_words xs) i 0 ≡ get_or (node_words xs) (10 * q + k) 0
opening-at xs q k i is = let e : i ≡ 20 + (10 * q + k) = omega arith in ap (λ n. get_or (opening_words xs) n 0) e ∙ get_or-append-add (replicate 20 0) (node_words xs) (10 * q + k) 0

node-next : (xs : List Attr) (q : ℕ) → get_or (node_words xs) (10 * q + 0) 0 ≡ 0
node-next [] q = refl
node-next (x ∷ xs) zero = refl
node-next (x ∷ xs) (suc q) = node-past x xs q 0 ∙ node-next xs q

pub opening-next : (xs : List Attr) (q : ℕ) → look (opening_words xs) (Next q) ≡ 0
opening-next xs q = opening-at xs q 0 (10 * q + 20) (omega arith) ∙ node-next xs q

opening-links : (xs : List Attr) (count : ℕ) (v : Word) → LinkBelow count v (look (opening_words xs) v)
opening-links xs count Tail = omega arith
opening-links xs count (Next q) = let e = opening-next xs q in omega arith
opening-links xs count _ = tt

-- a lock at its opening is in bounds
pub opening-bounds : (xs : List Attr) → length xs ≤ most_passes → HasBounds (opening xs)
opening-bounds xs few = let n = idle-from-long 0 xs in let m = node-words-long xs in record {
  room = omega arith;
  few = omega arith;
  links = λ v. opening-links xs (length (idle_from 0 xs)) v;
  passes = λ p q e. let t = idle-from-at 0 xs p q e in let same : q ≡ idle p = t.0 ∙ ap idle (let e : 0 + p ≡ p = omega arith in e) in let h : p < length (idle_from 0 xs) = (let u = t.1 in omega arith) in
      subst (λ (z : PassState). IsInBounds (length (idle_from 0 xs)) p z) (sym same) (let any : 0 < length (idle_from 0 xs) = omega arith in record { names = (refl, any, any, any, any, any, any, any); wakes = tt });
}

-- waiters that are made for these attributes
pub record AreMade {W : Type 0} (f : W → Meaning) (rules : Rules) (waiters : List W) (made : List Attr) : Type 0 where
  pub passes : standing f waiters ≡ idle_from 0 made
  pub alike : (k : ℕ) (w : W) → get_elem? waiters k ≡ some w → (f w).rules ≡ rules

at-append : {A : Type 0} (l : List A) (x : A) (i : ℕ) (u : A) → get_elem? (l ++ x ∷ []) i ≡ some u → (get_elem? l i ≡ some u) ⊎ (x ≡ u)
at-append [] x zero u e = inr (some-injective x u e)
at-append [] x (suc i) u e = absurd (some-ne-none u (sym e))
at-append (y ∷ ys) x zero u e = inl e
at-append (y ∷ ys) x (suc i) u e = at-append ys x i u e

standing-append : {W : Type 0} (f : W → Meaning) (l : List W) (w : W) → standing f (l ++ w ∷ []) ≡ standing f l ++ (f w).pass ∷ []
standing-append f [] w = refl
standing-append f (x ∷ xs) w = ap (λ z. (f x).pass ∷ z) (standing-append f xs w)

-- a waiter more is made
pub one-more-made : {W : Type 0} (f : W → Meaning) (rules : Rules) (waiters : List W) (attrs : List Attr) (i : ℕ) (a : Attr) (w : W) → i < length attrs → a ≡ get_or attrs i a
    → AreMade f rules waiters (take i attrs) → f w ≡ fresh i a rules → AreMade f rules (waiters ++ w ∷ []) (take (i + 1) attrs)
one-more-made f rules waiters attrs i a w h here m e = let t : take (i + 1) attrs ≡ take i attrs ++ a ∷ [] = take_more attrs i a h ∙ ap (λ z. take i attrs ++ z ∷ []) (sym here) in record {
  passes = standing-append f waiters w ∙ ((λ j. m.passes j ++ (ap (λ (z : Meaning). z.pass) e ∙ ap idle (let n = length-take i attrs in let k : i ≡ 0 + length (take i attrs) = omega arith in k)) j ∷ [])
      ∙ (sym (idle-from-append 0 (take i attrs) a) ∙ ap (idle_from 0) (sym t)));
  alike = λ k u g. ⊎_elim (λ o. m.alike k u o) (λ o. ap (λ z. (f z).rules) (sym o) ∙ ap (λ (z : Meaning). z.rules) e) (at-append waiters w k u g);
}

-- the words of so many passes at the opening, and room for the rest
abbrev pub opened_to : List Attr → ℕ → List ℕ
opened_to attrs i = opening_words (take i attrs) ++ replicate (10 * (length attrs - i)) 0

pub opening-long : (xs : List Attr) → length (opening_words xs) ≡ 10 * length xs + 20
opening-long xs = let n = length-append (replicate 20 0) (node_words xs) in let m = node-words-long xs in omega arith

pub opened-none : (attrs : List Attr) → replicate (10 * (length attrs + 2)) 0 ≡ opened_to attrs 0
opened-none attrs = let e : 10 * (length attrs + 2) ≡ 20 + 10 * (length attrs - 0) = omega arith in ap zeros e ∙ zeros-add 20 (10 * (length attrs - 0))

pub opened-all : (attrs : List Attr) (i : ℕ) → length attrs ≤ i → opened_to attrs i ≡ opening_words attrs
opened-all attrs i h = let e : 10 * (length attrs - i) ≡ 0 = omega arith in ap (λ n. opening_words (take i attrs) ++ zeros n) e
    ∙ (append-nil (opening_words (take i attrs)) ∙ ap opening_words (take_all i attrs h))

-- the attributes of one pass more
pub one-more-word : (attrs : List Attr) (i : ℕ) (a : Attr) (words : List ℕ) → i < length attrs → a ≡ get_or attrs i a → words ≡ opened_to attrs i → set words (10 * i + 22) (attr_word a) ≡ opened_to attrs (i + 1)
one-more-word attrs i a words h here e = let left : ℕ = 10 * (length attrs - (i + 1)) in let before : List ℕ = opening_words (take i attrs) in
    let more : 10 * (length attrs - i) ≡ 10 + left = omega arith in let place : (10 * i + 22) - (10 * i + 20) ≡ 2 = omega arith in
    let long : length before ≡ 10 * i + 20 = (let n = opening-long (take i attrs) in let m = length-take i attrs in omega arith) in
    ap (λ l. set l (10 * i + 22) (attr_word a)) (e ∙ ap (λ z. before ++ z) (ap zeros more ∙ zeros-add 10 left))
    ∙ (set-append_right before (zeros 10 ++ zeros left) (10 * i + 20) (10 * i + 22) (attr_word a) long (omega arith)
    ∙ (ap (λ n. before ++ set (zeros 10 ++ zeros left) n (attr_word a)) place
    ∙ (sym (append_assoc before (node (attr_word a)) (zeros left))
    ∙ ap (λ l. l ++ zeros left) (append_assoc (replicate 20 0) (node_words (take i attrs)) (node (attr_word a))
    ∙ (ap (λ l. replicate 20 0 ++ l) (sym (node-words-append (take i attrs) a)) ∙ ap opening_words (sym (take_more attrs i a h ∙ ap (λ z. take i attrs ++ z ∷ []) (sym here))))))))

module _ {W : Type 0} (f : W → Meaning) (rules : Rules) (attrs : List Attr) where
  first-rules : (waiters : List W) → 0 < length waiters → ((k : ℕ) (w : W) → get_elem? waiters k ≡ some w → (f w).rules ≡ rules) → common_rules f waiters ≡ rules
  first-rules [] any h = absurd (omega arith)
  first-rules (w ∷ rest) any h = h 0 w refl

  long-enough : (waiters : List W) → AreMade f rules waiters attrs → length waiters ≡ length attrs
  long-enough waiters m = sym (standing-long f waiters) ∙ (ap length m.passes ∙ idle-from-long 0 attrs)

  rules-are : (waiters : List W) → 0 < length attrs → AreMade f rules waiters attrs → common_rules f waiters ≡ rules
  rules-are waiters any m = let e = long-enough waiters m in first-rules waiters (omega arith) m.alike

  pub made-lock : (words : List ℕ) (waiters : List W) → 0 < length attrs → length attrs ≤ most_passes → words ≡ opening_words attrs → AreMade f rules waiters attrs → IsLock f words waiters
  made-lock words waiters any few e m = record {
    bounds = subst HasBounds (λ j. record { words = sym e j; passes = sym m.passes j }) (opening-bounds attrs few);
    rules = λ k w g. m.alike k w g ∙ sym (rules-are waiters any m);
  }

  pub made-seen : (words : List ℕ) (waiters : List W) → 0 < length attrs → words ≡ opening_words attrs → AreMade f rules waiters attrs → seen_lock f words waiters ≡ opened rules attrs
  made-seen words waiters any e m = λ j. record { rules = rules-are waiters any m j; world = record { words = e j; passes = m.passes j } }
