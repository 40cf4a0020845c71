-- The marked prefix under edits of the line.
use Rattle.std.proofs.Common.{◌≡◌, ◌≢◌, ℕ, zero, suc, ◌+◌, ◌<◌, ◌≤◌, List, [], ◌∷◌, cond, ◌==◌, refl, sym, ap, ◌∙◌, subst, arith}
use Rattle.std.proofs.lemmas.Bool.Decides.{nat_tests}
use Rattle.shfl_line.specs.Passes.{times, Chain, without, put_behind, last_marked}
use Rattle.shfl_line.specs.Passes.{MarkedFirst, StopsAt, EachPair, IsLastMarked}
use Rattle.shfl_line.proofs.Chain

pub chain-tail : (R : ℕ → ℕ → Type 0) (x : ℕ) (xs : List ℕ) → Chain R x xs → EachPair R xs
chain-tail R x [] c = tt
chain-tail R x (y ∷ ys) c = c.1

pub prefix-without : (m : ℕ → ℕ) (c : ℕ) (l : List ℕ) → times c l ≤ 1 → EachPair (MarkedFirst m) l → EachPair (MarkedFirst m) (without c l)
prefix-without m c [] t h = tt
prefix-without m c (x ∷ xs) t h = Chain.by_eq x c
    (λ e. rw (Chain.without-hit x c xs e) (chain-tail (MarkedFirst m) x xs h))
    (λ n. rw (Chain.without-miss x c xs n) (Chain.chain-without (MarkedFirst m) (MarkedFirst m) x c xs (λ a b _ _ _ _ r. r) (λ a b _ f g _ k. f (g k)) n (grind (arith, nat_tests, t, n)) h))

both-of : (R S : ℕ → ℕ → Type 0) (x : ℕ) (xs : List ℕ) → Chain R x xs → Chain S x xs → Chain (λ a b. R a b × S a b) x xs
both-of = Chain.chain-both

pub stops-without : (m : ℕ → ℕ) (c k : ℕ) (l : List ℕ) → times c l ≤ 1 → EachPair (MarkedFirst m) l → EachPair (StopsAt m k) l → EachPair (StopsAt m k) (without c l)
stops-without m c k [] t h e = tt
stops-without m c k (x ∷ xs) t h e = Chain.by_eq x c
    (λ q. rw (Chain.without-hit x c xs q) (chain-tail (StopsAt m k) x xs e))
    (λ n. rw (Chain.without-miss x c xs n) (Chain.chain-without (λ a b. MarkedFirst m a b × StopsAt m k a b) (StopsAt m k) x c xs
    (λ a b _ _ _ _ r. r.1)
    (λ a b _ f g _ q. let z = f.1 q in let u = g.0 in grind (arith, u))
    n (grind (arith, nat_tests, t, n)) (both-of (MarkedFirst m) (StopsAt m k) x xs h e)))

pub last-without : (m : ℕ → ℕ) (c k : ℕ) (l : List ℕ) → times c l ≡ 1 → k ≢ c → EachPair (MarkedFirst m) l → IsLastMarked m l k → IsLastMarked m (without c l) k
last-without m c k l t n h e = record {
  inside = (let i = e.inside in let w = Chain.times-without k c l (grind arith) in grind (arith, nat_tests));
  marked = e.marked;
  stops = stops-without m c k l (grind arith) h e.stops;
}

pub put-chain : (m : ℕ → ℕ) (l c : ℕ) (line : List ℕ) → m c ≡ 0 → times l line ≡ 1 → EachPair (MarkedFirst m) line → EachPair (StopsAt m l) line → EachPair (λ a b. MarkedFirst m a b × StopsAt m l a b) (put_behind l c line)
put-chain m l c [] z t h e = tt
put-chain m l c (x ∷ xs) z t h e = Chain.chain-put (λ a b. MarkedFirst m a b × StopsAt m l a b) (λ a b. MarkedFirst m a b × StopsAt m l a b) x l c xs (λ a b _ _ _ r. r)
    ((λ k. absurd (omega arith)), (λ _. z)) (λ b _ r. ((λ k. absurd (let y = r.1 refl in omega arith)), (λ _. r.1 refl))) t (both-of (MarkedFirst m) (StopsAt m l) x xs h e)

pub chain-of-map : (R S : ℕ → ℕ → Type 0) (l : List ℕ) → ((a b : ℕ) → R a b → S a b) → EachPair R l → EachPair S l
chain-of-map R S [] f c = tt
chain-of-map R S (x ∷ xs) f c = Chain.chain-map R S x xs (λ a b _ _ r. f a b r) c

pub prefix-put : (m : ℕ → ℕ) (l c : ℕ) (line : List ℕ) → m c ≡ 0 → times l line ≡ 1 → EachPair (MarkedFirst m) line → EachPair (StopsAt m l) line → EachPair (MarkedFirst m) (put_behind l c line)
prefix-put m l c line z t h e = chain-of-map (λ a b. MarkedFirst m a b × StopsAt m l a b) (MarkedFirst m) (put_behind l c line) (λ a b r. r.0) (put-chain m l c line z t h e)

pub times-put-behind : (q l c : ℕ) (line : List ℕ) → 0 < times l line → times q (put_behind l c line) ≡ times q line + cond (c == q) 1 0
times-put-behind q l c [] m = absurd (omega arith)
times-put-behind q l c (x ∷ xs) m = let t = Chain.times-put q x l c xs m in omega arith

pub last-put : (m : ℕ → ℕ) (l c : ℕ) (line : List ℕ) → m c ≡ 0 → times l line ≡ 1 → EachPair (MarkedFirst m) line → IsLastMarked m line l → IsLastMarked m (put_behind l c line) l
last-put m l c line z t h e = record {
  inside = (let i = times-put-behind l l c line e.inside in omega arith);
  marked = e.marked;
  stops = chain-of-map (λ a b. MarkedFirst m a b × StopsAt m l a b) (StopsAt m l) (put_behind l c line) (λ a b r. r.1) (put-chain m l c line z t h e.stops);
}

-- where any pass of the line is marked, its first is
pub first-marked : (m : ℕ → ℕ) (x q : ℕ) (xs : List ℕ) → Chain (MarkedFirst m) x xs → 0 < times q (x ∷ xs) → 0 < m q → 0 < m x
first-marked m x q [] c t h = Chain.by_eq x q (λ e. subst (λ z. 0 < m z) (sym e) h) (λ n. absurd (grind (arith, nat_tests)))
first-marked m x q (y ∷ ys) c t h = Chain.by_eq x q (λ e. subst (λ z. 0 < m z) (sym e) h) (λ n. c.0 (first-marked m y q ys c.1 (grind (arith, nat_tests, t, n)) h))

-- where the first is the last marked, no other is
pub first-last : (m : ℕ → ℕ) (x q : ℕ) (xs : List ℕ) → Chain (MarkedFirst m) x xs → Chain (StopsAt m x) x xs → 0 < times q xs → m q ≡ 0
first-last m x q [] c e t = absurd (omega arith)
first-last m x q (y ∷ ys) c e t = none (m q) refl
  where
    none : (n : ℕ) → m q ≡ n → m q ≡ 0
    none zero h = h
    none (suc n) h = absurd (let u = first-marked m y q ys c.1 t (omega arith) in let z = e.0 refl in omega arith)

-- an unmarked walk has no last marked pass
pub none-marked : (m : ℕ → ℕ) (x : ℕ) (xs : List ℕ) → Chain (MarkedFirst m) x xs → m x ≡ 0 → last_marked m (x ∷ xs) ≡ 0
none-marked m x [] c z = grind (arith, nat_tests)
none-marked m x (y ∷ ys) c z = let k : m y ≡ 0 = (let u = c.0 in grind arith) in let ih : last_marked m (y ∷ ys) ≡ 0 = none-marked m y ys c.1 k in
    λ i. cond (ih i == 0) (cond (z i == 0) 0 (suc x)) (ih i)

-- the last marked pass is the one that is marked with nothing marked behind it
pub last-is : (m : ℕ → ℕ) (x l : ℕ) (xs : List ℕ) → Chain (MarkedFirst m) x xs → Chain (StopsAt m l) x xs → ((q : ℕ) → times q (x ∷ xs) ≤ 1) → 0 < times l (x ∷ xs) → 0 < m l → last_marked m (x ∷ xs) ≡ suc l
last-is m x l [] c e o t h = let i : x ≡ l = grind (arith, nat_tests, t) in let h0 : 0 < m x = subst (λ z. 0 < m z) (sym i) h in grind (arith, nat_tests)
last-is m x l (y ∷ ys) c e o t h = Chain.by_eq x l
    (λ i. let z : m y ≡ 0 = e.0 i in let n : last_marked m (y ∷ ys) ≡ 0 = none-marked m y ys c.1 z in let h0 : 0 < m x = subst (λ z. 0 < m z) (sym i) h in ap (λ v. cond (v == 0) (cond (m x == 0) 0 (suc x)) v) n ∙ grind (arith, nat_tests, h0))
    (λ n. let ih : last_marked m (y ∷ ys) ≡ suc l = last-is m y l ys c.1 e.1 (λ q. let u = o q in omega arith) (grind (arith, nat_tests, t, n)) h in ap (λ v. cond (v == 0) (cond (m x == 0) 0 (suc x)) v) ih ∙ grind (arith, nat_tests))
