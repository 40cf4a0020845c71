-- What the order says of neighbours in the line: successors, predecessors and the line's two ends.
use Rattle.std.proofs.Common.{◌≡◌, ◌≢◌, ℕ, suc, ◌<◌, ◌≤◌, List, [], ◌∷◌, true, false, refl, sym, ◌∙◌, ⊎_elim, subst, arith}
use Rattle.std.proofs.lemmas.Bool.Decides.{nat_tests}
use Rattle.shfl_line.specs.Line.{Line}
use Rattle.shfl_line.specs.Passes.{updated, times, Chain, end, follower_after, MarkedFirst}
use Rattle.shfl_core.specs.declared.phase.PassState.{PassState}
use Rattle.shfl_core.specs.Phases.{is_round, is_queued, is_linking}
use Rattle.shfl_core.specs.View.{View}
use Rattle.shfl_core.specs.Order.{Order as Ordered, Follows, Walks, Stands}
use Rattle.shfl_core.specs.Grouping.{Grouping}
use Rattle.shfl_line.proofs.Chain

pub link-suc : (w : View) (a b c : ℕ) → w.next a ≡ suc c → Follows w a b → (b ≡ c) × (is_linking (w.pass b).phase ≡ false)
link-suc w a b c e f = grind (arith, f.word)

-- a next word names a pass of the list
pub succ-in : (w : View) (x : ℕ) (xs : List ℕ) (a b : ℕ) → Chain (Follows w) x xs → w.next (end x xs) ≡ 0 → 0 < times a (x ∷ xs) → w.next a ≡ suc b → (0 < times b xs) × (is_linking (w.pass b).phase ≡ false)
succ-in w x xs a b c z m e = ⊎_elim
    (λ q. absurd (let k : w.next a ≡ 0 = subst (λ v. w.next v ≡ 0) (sym q) z in grind arith))
    (λ t. let l = link-suc w a t.0 b e t.1 in (subst (λ v. 0 < times v xs) l.0 t.2, subst (λ v. is_linking (w.pass v).phase ≡ false) l.0 l.1))
    (Chain.chain-next (Follows w) x xs a c m)

-- two passes with one successor are one
pub pred-one : (w : View) (x : ℕ) (xs : List ℕ) (a c b : ℕ) → Chain (Follows w) x xs → w.next (end x xs) ≡ 0 → times b xs ≤ 1 → 0 < times a (x ∷ xs) → 0 < times c (x ∷ xs) → w.next a ≡ suc b → w.next c ≡ suc b → a ≡ c
pred-one w x [] a c b h z t m n e f = grind (arith, nat_tests)
pred-one w x (y ∷ ys) a c b h z t m n e f = Chain.by_eq x a
    (λ p. Chain.by_eq x c (λ q. sym p ∙ q)
    (λ q. absurd (let i = succ-in w y ys c b h.1 z (grind (arith, nat_tests, n, q)) f in let l = link-suc w x y b (subst (λ v. w.next v ≡ suc b) (sym p) e) h.0 in grind (arith, nat_tests, t, i.0, l.0))))
    (λ p. Chain.by_eq x c
    (λ q. absurd (let i = succ-in w y ys a b h.1 z (grind (arith, nat_tests, m, p)) e in let l = link-suc w x y b (subst (λ v. w.next v ≡ suc b) (sym q) f) h.0 in grind (arith, nat_tests, t, i.0, l.0)))
    (λ q. pred-one w y ys a c b h.1 z (grind (arith, nat_tests, t)) (grind (arith, nat_tests, m, p)) (grind (arith, nat_tests, n, q)) e f))

-- who stands in the line is queued
pub queued-in : (w : View) (s : Line) (q : ℕ) → Stands w s → 0 < times q s.line → is_queued (w.pass q) ≡ true
queued-in w s q h m = grind (arith, h q)

-- no pass of a walk is its own successor
pub no-loop : (w : View) (x : ℕ) (xs : List ℕ) (a : ℕ) → Chain (Follows w) x xs → w.next (end x xs) ≡ 0 → times a (x ∷ xs) ≤ 1 → 0 < times a (x ∷ xs) → w.next a ≢ suc a
no-loop w x [] a h z t m e = grind (arith, nat_tests)
no-loop w x (y ∷ ys) a h z t m e = Chain.by_eq x a
    (λ p. let l = link-suc w x y a (subst (λ v. w.next v ≡ suc a) (sym p) e) h.0 in grind (arith, nat_tests, t, l.0))
    (λ p. no-loop w y ys a h.1 z (grind (arith, t)) (grind (arith, nat_tests, m, p)) e)

-- a word of a queued pass is written
pub clean-next : (w : View) (p i u : ℕ) (v : PassState) (q : ℕ) → is_queued v ≡ is_queued (w.pass p) → is_queued (w.pass i) ≡ true → (is_queued (w.pass q) ≡ false → w.next q ≡ 0) → is_queued (updated w.pass p v q) ≡ false → updated w.next i u q ≡ 0
clean-next w p i u v q e k h n = grind (arith, nat_tests)

-- a line that is not empty, with what the order says of it
pub record Scene (w : View) (s : Line) (x : ℕ) (xs : List ℕ) : Type 0 where
  pub line : s.line ≡ x ∷ xs
  pub walks : Chain (Follows w) x xs
  pub stop : w.next (end x xs) ≡ 0
  pub tail : w.tail ≡ suc (end x xs)
  pub once : (q : ℕ) → times q (x ∷ xs) ≤ 1

some-line : (q : ℕ) (l : List ℕ) → 0 < times q l → (x : ℕ) × (xs : List ℕ) × (l ≡ x ∷ xs)
some-line q [] m = absurd (omega arith)
some-line q (x ∷ xs) m = (x, xs, refl)

pub scene-at : (w : View) (s : Line) (g x : ℕ) (xs : List ℕ) → Ordered w s g → s.line ≡ x ∷ xs → Scene w s x xs
scene-at w s g x xs o e = let k : Chain (Follows w) x xs × (w.next (end x xs) ≡ 0) × (w.tail ≡ suc (end x xs)) = subst (λ l. Walks w l) e o.walks in record {
  line = e;
  walks = k.0;
  stop = k.1;
  tail = k.2;
  once = λ q. subst (λ l. times q l ≤ 1) e (grind (arith, o.stands q));
}

pub scene : (w : View) (s : Line) (g q : ℕ) → Ordered w s g → 0 < times q s.line → (x : ℕ) × (xs : List ℕ) × Scene w s x xs
scene w s g q o m = let t = some-line q s.line m in (t.0, t.1, scene-at w s g t.0 t.1 o t.2)

-- only the walking pass is in a round phase
pub alone : (limit : ℕ) (w : View) (s : Line) (p q : ℕ) → Grouping limit w s → is_round (w.pass p).phase ≡ true → is_round (w.pass q).phase ≡ true → q ≡ p
alone limit w s p q k h m = let a = k.walks p h in let b = k.walks q m in omega arith

-- the successor of a pass with no mark has none
pub unmarked-next : (w : View) (m : ℕ → ℕ) (x : ℕ) (xs : List ℕ) (a b : ℕ) → Chain (Follows w) x xs → Chain (MarkedFirst m) x xs → w.next (end x xs) ≡ 0 → 0 < times a (x ∷ xs) → w.next a ≡ suc b → m a ≡ 0 → m b ≡ 0
unmarked-next w m x xs a b c d z i e n = ⊎_elim
    (λ q. absurd (let k : w.next a ≡ 0 = subst (λ v. w.next v ≡ 0) (sym q) z in grind arith))
    (λ t. let l = link-suc w a t.0 b e t.1.0 in let u = t.1.1 in let e0 = l.0 in subst (λ v. m v ≡ 0) e0 (grind (arith, u)))
    (Chain.chain-next (λ a b. Follows w a b × MarkedFirst m a b) x xs a (Chain.chain-both (Follows w) (MarkedFirst m) x xs c d) i)

-- the successor by the next word is the follower in the list
pub follower-next : (w : View) (x : ℕ) (xs : List ℕ) (a b : ℕ) → Chain (Follows w) x xs → w.next (end x xs) ≡ 0 → ((q : ℕ) → times q (x ∷ xs) ≤ 1) → 0 < times a (x ∷ xs) → w.next a ≡ suc b → follower_after a x xs ≡ suc b
follower-next w x xs a b c z o m e = let i = succ-in w x xs a b c z m e in let t = Chain.chain-before (Follows w) x xs b o c i.0 in
    let j : a ≡ t.0 = pred-one w x xs a t.0 b c z (let u = o b in omega arith) m (Chain.follower-in t.0 x b xs t.2).0 e (let f = t.1.word in let n = i.1 in grind (arith, f, n)) in
    subst (λ y. follower_after y x xs ≡ suc b) (sym j) t.2
