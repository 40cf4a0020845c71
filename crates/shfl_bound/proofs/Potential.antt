-- The potential of a queued pass: no event of the line raises it, and each departure lowers it. Here: that it is at
-- most the limit for each pass ahead.
use Rattle.std.proofs.Common.{◌≡◌, ◌≢◌, ℕ, zero, suc, ◌+◌, ◌-◌, ◌*◌, ◌<◌, ◌≤◌, List, [], ◌∷◌, Bool, true, false, cond, ◌==◌, refl, sym, ap, ◌∙◌, subst, length, arith}
use Rattle.std.proofs.lemmas.Bool.Decides.{nat_tests}
use Rattle.shfl_line.specs.Passes.{times, EachPair, MarkedFirst, last_marked}
use Rattle.shfl_line.proofs.Chain
use Rattle.shfl_line.proofs.Marks.{chain-tail, first-marked}
use Rattle.shfl_line.proofs.Behind.{last-inside}
use Rattle.shfl_bound.specs.Departures.{ahead}
use Rattle.shfl_bound.proofs.Ahead.{weigh, weigh-cong, weigh-mono, weigh-add, weigh-all, ahead-hit, ahead-miss}

-- a pass with a batch number weighs 1
abbrev pub marked : (ℕ → ℕ) → ℕ → ℕ
marked m z = cond (m z == 0) 0 1

-- one without weighs as much as the limit, but for the waiter that is being moved up (that pass plus 1, or 0)
abbrev pub free : ℕ → (ℕ → ℕ) → ℕ → ℕ → ℕ
free limit m moved z = cond (m z == 0) (cond (moved == suc z) 0 limit) 0

-- the number of the batch's last
abbrev pub top : (ℕ → ℕ) → List ℕ → ℕ
top m l = m (last_marked m l - 1)

-- where a batch stands: its passes, and those that may still come to it
abbrev pub batch_weight : ℕ → (ℕ → ℕ) → List ℕ → ℕ
batch_weight limit m l = cond (last_marked m l == 0) 0 (weigh (marked m) l + (limit - top m l))

abbrev pub potential : ℕ → (ℕ → ℕ) → List ℕ → ℕ → ℕ → ℕ
potential limit m l moved x = cond (moved == suc x) (weigh (marked m) l)
    (cond (m x == 0) (weigh (free limit m moved) (ahead x l) + batch_weight limit m l) (weigh (marked m) (ahead x l)))

-- the three cases
pub at-moved : (limit : ℕ) (m : ℕ → ℕ) (l : List ℕ) (moved x : ℕ) → moved ≡ suc x → potential limit m l moved x ≡ weigh (marked m) l
at-moved limit m l moved x e = by (moved == suc x) (grind (arith, nat_tests))
  where
    by : (b : Bool) → b ≡ true → cond b (weigh (marked m) l) (cond (m x == 0) (weigh (free limit m moved) (ahead x l) + batch_weight limit m l) (weigh (marked m) (ahead x l))) ≡ weigh (marked m) l
    by true e = refl
    by false e = absurd (cc)

pub at-free : (limit : ℕ) (m : ℕ → ℕ) (l : List ℕ) (moved x : ℕ) → moved ≢ suc x → m x ≡ 0 → potential limit m l moved x ≡ weigh (free limit m moved) (ahead x l) + batch_weight limit m l
at-free limit m l moved x n z = by (moved == suc x) (m x == 0) (grind (arith, nat_tests)) (grind (arith, nat_tests))
  where
    by : (b c : Bool) → b ≡ false → c ≡ true → cond b (weigh (marked m) l) (cond c (weigh (free limit m moved) (ahead x l) + batch_weight limit m l) (weigh (marked m) (ahead x l)))
        ≡ weigh (free limit m moved) (ahead x l) + batch_weight limit m l
    by true c e f = absurd (cc)
    by false true e f = refl
    by false false e f = absurd (cc)

pub at-marked : (limit : ℕ) (m : ℕ → ℕ) (l : List ℕ) (moved x : ℕ) → moved ≢ suc x → 0 < m x → potential limit m l moved x ≡ weigh (marked m) (ahead x l)
at-marked limit m l moved x n z = by (moved == suc x) (m x == 0) (grind (arith, nat_tests)) (grind (arith, nat_tests))
  where
    by : (b c : Bool) → b ≡ false → c ≡ false → cond b (weigh (marked m) l) (cond c (weigh (free limit m moved) (ahead x l) + batch_weight limit m l) (weigh (marked m) (ahead x l)))
        ≡ weigh (marked m) (ahead x l)
    by true c e f = absurd (cc)
    by false true e f = absurd (cc)
    by false false e f = refl

pub batch-none : (limit : ℕ) (m : ℕ → ℕ) (l : List ℕ) → last_marked m l ≡ 0 → batch_weight limit m l ≡ 0
batch-none limit m l e = λ i. cond (e i == 0) 0 (weigh (marked m) l + (limit - top m l))

pub batch-some : (limit k : ℕ) (m : ℕ → ℕ) (l : List ℕ) → last_marked m l ≡ suc k → batch_weight limit m l ≡ weigh (marked m) l + (limit - m k)
batch-some limit k m l e = (λ i. cond (e i == 0) 0 (weigh (marked m) l + (limit - m (e i - 1))))
    ∙ (pick (suc k == 0) (weigh (marked m) l + (limit - m (suc k - 1))) (grind (arith, nat_tests)) ∙ ap (λ z. weigh (marked m) l + (limit - m z)) (let a : suc k - 1 ≡ k = omega arith in a))
  where
    pick : (b : Bool) (v : ℕ) → b ≡ false → cond b 0 v ≡ v
    pick true v i = absurd (cc)
    pick false v i = refl

-- nobody behind a pass without a batch number has one
pub rest-unmarked : (m : ℕ → ℕ) (z : ℕ) (zs : List ℕ) → EachPair (MarkedFirst m) (z ∷ zs) → m z ≡ 0 → weigh (marked m) (z ∷ zs) ≡ 0
rest-unmarked m z zs c e = weigh-cong (marked m) (λ _. 0) (z ∷ zs) (λ q h. none (m q) refl h) ∙ weigh-all 0 (z ∷ zs) ∙ (omega arith)
  where
    none : {q : ℕ} (n : ℕ) → m q ≡ n → 0 < times q (z ∷ zs) → marked m q ≡ 0
    none {q = q} zero i h = grind (arith, nat_tests)
    none {q = q} (suc n) i h = absurd (let a = first-marked m z q zs c h (omega arith) in omega arith)

-- so the batch is ahead of it
pub batch-ahead : (m : ℕ → ℕ) (x : ℕ) (l : List ℕ) → EachPair (MarkedFirst m) l → m x ≡ 0 → weigh (marked m) l ≡ weigh (marked m) (ahead x l)
batch-ahead m x [] c e = refl
batch-ahead m x (z ∷ zs) c e = Chain.by_eq z x
    (λ i. rest-unmarked m z zs c (subst (λ k. m k ≡ 0) (sym i) e) ∙ sym (ap (weigh (marked m)) (ahead-hit x z zs i)))
    (λ n. ap (λ v. marked m z + v) (batch-ahead m x zs (chain-tail (MarkedFirst m) z zs c) e) ∙ sym (ap (weigh (marked m)) (ahead-miss x z zs n)))

-- each pass of the batch, at the limit's weight
abbrev pub heavy : ℕ → (ℕ → ℕ) → ℕ → ℕ
heavy limit m z = cond (m z == 0) 0 limit

pub marked-heavy : (limit : ℕ) (m : ℕ → ℕ) (z : ℕ) → 0 < limit → marked m z ≤ heavy limit m z
marked-heavy limit m z pos = grind (arith, nat_tests)

-- a batch with at least one pass, and what may still come to it
pub heavy-batch : (limit : ℕ) (m : ℕ → ℕ) (l : List ℕ) → 0 < limit → 0 < weigh (marked m) l → weigh (marked m) l + limit ≤ weigh (heavy limit m) l + 1
heavy-batch limit m [] pos h = absurd (omega arith)
heavy-batch limit m (z ∷ zs) pos h = by (m z == 0) (heavy-batch limit m zs pos) h
  where
    by : (b : Bool) → (0 < weigh (marked m) zs → weigh (marked m) zs + limit ≤ weigh (heavy limit m) zs + 1) → 0 < cond b 0 1 + weigh (marked m) zs → (cond b 0 1 + weigh (marked m) zs) + limit ≤ (cond b 0 limit + weigh (heavy limit m) zs) + 1
    by true ih h = let a = ih (omega arith) in omega arith
    by false ih h = let a = weigh-mono (marked m) (heavy limit m) zs (λ q _. marked-heavy limit m q pos) in omega arith

pub weigh-some : (f : ℕ → ℕ) (q : ℕ) (l : List ℕ) → 0 < times q l → 0 < f q → 0 < weigh f l
weigh-some f q [] h k = absurd (omega arith)
weigh-some f q (z ∷ zs) h k = Chain.by_eq z q
    (λ e. let a : 0 < f z = subst (λ v. 0 < f v) (sym e) k in omega arith)
    (λ n. let a = weigh-some f q zs (grind (arith, nat_tests)) k in omega arith)

pub batch-bound : (limit : ℕ) (m : ℕ → ℕ) (l : List ℕ) → 0 < limit → batch_weight limit m l ≤ weigh (heavy limit m) l
batch-bound limit m l pos = by (last_marked m l) refl
  where
    by : (n : ℕ) → last_marked m l ≡ n → batch_weight limit m l ≤ weigh (heavy limit m) l
    by zero e = let a = batch-none limit m l e in omega arith
    by (suc k) e = let a = batch-some limit k m l e in let b = last-inside m k l e in let b1 = b.1 in
        let c = heavy-batch limit m l pos (weigh-some (marked m) k l b.0 (let d : marked m k ≡ 1 = grind (arith, nat_tests) in omega arith)) in omega arith

module _ (limit : ℕ) (m : ℕ → ℕ) (l : List ℕ) (moved x : ℕ) (pos : 0 < limit) (prefix : EachPair (MarkedFirst m) l) where
  -- what is ahead, at the limit's weight
  all : weigh (λ _. limit) (ahead x l) ≡ limit * length (ahead x l)
  all = weigh-all limit (ahead x l)

  free-heavy : (z : ℕ) → free limit m moved z + heavy limit m z ≤ limit
  free-heavy z = grind (arith, nat_tests)

  heavy-ahead : m x ≡ 0 → weigh (heavy limit m) l ≡ weigh (heavy limit m) (ahead x l)
  heavy-ahead e = behind l prefix
    where
      behind : (l : List ℕ) → EachPair (MarkedFirst m) l → weigh (heavy limit m) l ≡ weigh (heavy limit m) (ahead x l)
      behind [] c = refl
      behind (z ∷ zs) c = Chain.by_eq z x
          (λ i. (let a : weigh (marked m) (z ∷ zs) ≡ 0 = rest-unmarked m z zs c (subst (λ k. m k ≡ 0) (sym i) e) in heavy-none (z ∷ zs) a) ∙ sym (ap (weigh (heavy limit m)) (ahead-hit x z zs i)))
          (λ n. ap (λ v. heavy limit m z + v) (behind zs (chain-tail (MarkedFirst m) z zs c)) ∙ sym (ap (weigh (heavy limit m)) (ahead-miss x z zs n)))
        where
          heavy-none : (k : List ℕ) → weigh (marked m) k ≡ 0 → weigh (heavy limit m) k ≡ 0
          heavy-none [] h = refl
          heavy-none (y ∷ ys) h = let a = heavy-none ys (omega arith) in let b : marked m y ≡ 0 = omega arith in let d : heavy limit m y ≡ 0 = grind (arith, nat_tests) in omega arith

  pub potential-bound : (moved ≡ suc x → m x ≡ 0) → potential limit m l moved x ≤ limit * length (ahead x l)
  potential-bound unmarked = Chain.by_eq moved (suc x)
      (λ e. let a = at-moved limit m l moved x e in let b = batch-ahead m x l prefix (unmarked e) in let c = light in omega arith)
      (λ n. by (m x) refl n)
    where
      light : weigh (marked m) (ahead x l) ≤ limit * length (ahead x l)
      light = let a = weigh-mono (marked m) (λ _. limit) (ahead x l) (λ z _. let b : marked m z ≤ 1 = grind (arith, nat_tests) in omega arith) in let b = all in omega arith

      by : (k : ℕ) → m x ≡ k → moved ≢ suc x → potential limit m l moved x ≤ limit * length (ahead x l)
      by (suc k) e n = let a = at-marked limit m l moved x n (omega arith) in let c = light in omega arith
      by zero e n = let a = at-free limit m l moved x n e in let b = batch-bound limit m l pos in let c = heavy-ahead e in
          let d = weigh-add (free limit m moved) (heavy limit m) (ahead x l) in
          let f = weigh-mono (λ z. free limit m moved z + heavy limit m z) (λ _. limit) (ahead x l) (λ z _. free-heavy z) in let g = all in omega arith
