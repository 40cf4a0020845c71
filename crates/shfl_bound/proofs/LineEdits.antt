-- The potential under the edits of the line: one more at its end, the first that leaves, and the one that is moved up.
use Rattle.std.proofs.Common.{◌≡◌, ◌≢◌, ℕ, zero, suc, ◌+◌, ◌-◌, ◌<◌, ◌≤◌, ◌⊎◌, List, [], ◌∷◌, ◌++◌, cond, ◌==◌, refl, sym, ap, ◌∙◌, subst, ⊎_elim, arith}
use Rattle.std.proofs.lemmas.Bool.Decides.{nat_tests}
use Rattle.shfl_line.specs.Passes.{times, EachPair, MarkedFirst, last_marked, without, put_behind}
use Rattle.shfl_line.proofs.Chain
use Rattle.shfl_line.proofs.Marks.{first-marked, none-marked}
use Rattle.shfl_line.proofs.Behind.{last-inside, put-hit, put-miss}
use Rattle.shfl_line.proofs.Batches.{last-push, last-cong}
use Rattle.shfl_bound.specs.Departures.{ahead}
use Rattle.shfl_bound.proofs.Ahead.{weigh, weigh-cong, weigh-mono, weigh-push, weigh-without, weigh-less, weigh-put, weigh-ahead-put, ahead-miss, ahead-in, ahead-push, ahead-without}
use Rattle.shfl_bound.proofs.Potential.{marked, free, batch_weight, potential, at-moved, at-free, at-marked, batch-none, batch-some}

-- a queued pass is the one that is moved up, or has no batch number, or has one
pub three : {P : Type 0} (m : ℕ → ℕ) (moved x : ℕ) → (moved ≡ suc x → P) → (moved ≢ suc x → m x ≡ 0 → P) → (moved ≢ suc x → 0 < m x → P) → P
three {P = P} m moved x f g h = Chain.by_eq moved (suc x) f (λ n. by (m x) refl n)
  where
    by : (k : ℕ) → m x ≡ k → moved ≢ suc x → P
    by zero e n = g n e
    by (suc k) e n = h n (omega arith)

pub marked-none : (m : ℕ → ℕ) (z : ℕ) → m z ≡ 0 → marked m z ≡ 0
marked-none m z e = grind (arith, nat_tests)

pub marked-one : (m : ℕ → ℕ) (z : ℕ) → 0 < m z → marked m z ≡ 1
marked-one m z e = grind (arith, nat_tests)

pub marked-same : (m k : ℕ → ℕ) (z : ℕ) → m z ≡ k z → marked m z ≡ marked k z
marked-same m k z e = λ i. cond (e i == 0) 0 1

pub free-same : (limit : ℕ) (m k : ℕ → ℕ) (moved z : ℕ) → m z ≡ k z → free limit m moved z ≡ free limit k moved z
free-same limit m k moved z e = λ i. cond (e i == 0) (cond (moved == suc z) 0 limit) 0

pub free-moved : (limit : ℕ) (m : ℕ → ℕ) (y : ℕ) → free limit m (suc y) y ≡ 0
free-moved limit m y = grind (arith, nat_tests)

pub free-marked : (limit : ℕ) (m : ℕ → ℕ) (moved z : ℕ) → 0 < m z → free limit m moved z ≡ 0
free-marked limit m moved z e = grind (arith, nat_tests)

-- the batch's last, where one without a batch number comes or goes
last-zero : (m : ℕ → ℕ) (z : ℕ) (zs : List ℕ) → m z ≡ 0 → last_marked m (z ∷ zs) ≡ last_marked m zs
last-zero m z zs e = grind (arith, nat_tests)

last-cons : (m : ℕ → ℕ) (z : ℕ) (zs ys : List ℕ) → last_marked m zs ≡ last_marked m ys → last_marked m (z ∷ zs) ≡ last_marked m (z ∷ ys)
last-cons m z zs ys e = λ i. cond (e i == 0) (cond (m z == 0) 0 (suc z)) (e i)

pub last-less : (m : ℕ → ℕ) (y : ℕ) (l : List ℕ) → m y ≡ 0 → last_marked m (without y l) ≡ last_marked m l
last-less m y [] e = refl
last-less m y (z ∷ zs) e = Chain.by_eq z y
    (λ i. ap (last_marked m) (Chain.without-hit z y zs i) ∙ sym (last-zero m z zs (subst (λ k. m k ≡ 0) (sym i) e)))
    (λ n. ap (last_marked m) (Chain.without-miss z y zs n) ∙ last-cons m z (without y zs) zs (last-less m y zs e))

pub last-put : (m : ℕ → ℕ) (k y : ℕ) (l : List ℕ) → m y ≡ 0 → last_marked m (put_behind k y l) ≡ last_marked m l
last-put m k y [] e = refl
last-put m k y (z ∷ zs) e = Chain.by_eq z k
    (λ i. ap (last_marked m) (put-hit k y z zs i) ∙ last-cons m z (y ∷ zs) zs (last-zero m y zs e))
    (λ n. ap (last_marked m) (put-miss k y z zs n) ∙ last-cons m z (put_behind k y zs) zs (last-put m k y zs e))

-- the batch weighs the same where its passes and its last do
batch-same : (limit : ℕ) (m : ℕ → ℕ) (l k : List ℕ) → weigh (marked m) l ≡ weigh (marked m) k → last_marked m l ≡ last_marked m k → batch_weight limit m l ≡ batch_weight limit m k
batch-same limit m l k e f = λ i. cond (f i == 0) 0 (e i + (limit - m (f i - 1)))

-- one more joins at the end
pub join-same : (limit : ℕ) (m : ℕ → ℕ) (l : List ℕ) (moved x p : ℕ) → m p ≡ 0 → (0 < times x l) ⊎ (moved ≡ suc x) → potential limit m (l ++ p ∷ []) moved x ≡ potential limit m l moved x
join-same limit m l moved x p e q = three m moved x
    (λ i. at-moved limit m (l ++ p ∷ []) moved x i ∙ (all ∙ sym (at-moved limit m l moved x i)))
    (λ n z. at-free limit m (l ++ p ∷ []) moved x n z ∙ ((λ j. weigh (free limit m moved) (front n j) + batch-same limit m (l ++ p ∷ []) l all (last-push m p l e) j) ∙ sym (at-free limit m l moved x n z)))
    (λ n z. at-marked limit m (l ++ p ∷ []) moved x n z ∙ (ap (weigh (marked m)) (front n) ∙ sym (at-marked limit m l moved x n z)))
  where
    all : weigh (marked m) (l ++ p ∷ []) ≡ weigh (marked m) l
    all = let a = weigh-push (marked m) p l in let b = marked-none m p e in omega arith

    front : moved ≢ suc x → ahead x (l ++ p ∷ []) ≡ ahead x l
    front n = ahead-push x p l (⊎_elim (λ i. i) (λ i. absurd (n i)) q)

-- one without a batch number becomes the one that is moved up
pub chosen-lower : (limit : ℕ) (m : ℕ → ℕ) (l : List ℕ) (x y k : ℕ) → m y ≡ 0 → last_marked m l ≡ suc k → potential limit m l (suc y) x ≤ potential limit m l 0 x
chosen-lower limit m l x y k e last = three m (suc y) x
    (λ i. let a = at-moved limit m l (suc y) x i in let s : y ≡ x = omega arith in let b = at-free limit m l 0 x (λ j. absurd (omega arith)) (subst (λ v. m v ≡ 0) s e) in
    let c = batch-some limit k m l last in omega arith)
    (λ n z. let a = at-free limit m l (suc y) x n z in let b = at-free limit m l 0 x (λ j. absurd (omega arith)) z in
    let c = weigh-mono (free limit m (suc y)) (free limit m 0) (ahead x l) (λ q _. lower q) in omega arith)
    (λ n z. let a = at-marked limit m l (suc y) x n z in let b = at-marked limit m l 0 x (λ j. absurd (omega arith)) z in omega arith)
  where
    lower : (q : ℕ) → free limit m (suc y) q ≤ free limit m 0 q
    lower q = grind (arith, nat_tests)

-- it is taken out of the line
pub out-lower : (limit : ℕ) (m : ℕ → ℕ) (l : List ℕ) (x y : ℕ) → m y ≡ 0 → potential limit m (without y l) (suc y) x ≤ potential limit m l (suc y) x
out-lower limit m l x y e = three m (suc y) x
    (λ i. let a = at-moved limit m (without y l) (suc y) x i in let b = at-moved limit m l (suc y) x i in let c = all in omega arith)
    (λ n z. let a = at-free limit m (without y l) (suc y) x n z in let b = at-free limit m l (suc y) x n z in let c = batch-same limit m (without y l) l all (last-less m y l e) in
    let d = front (free limit m (suc y)) n in omega arith)
    (λ n z. let a = at-marked limit m (without y l) (suc y) x n z in let b = at-marked limit m l (suc y) x n z in let d = front (marked m) n in omega arith)
  where
    all : weigh (marked m) (without y l) ≡ weigh (marked m) l
    all = weigh-less (marked m) y l (marked-none m y e)

    front : (f : ℕ → ℕ) → suc y ≢ suc x → weigh f (ahead x (without y l)) ≤ weigh f (ahead x l)
    front f n = let a : weigh f (ahead x (without y l)) ≡ weigh f (without y (ahead x l)) = ap (weigh f) (ahead-without x y l (λ i. n (ap suc (sym i)))) in let b = weigh-without f y (ahead x l) in omega arith

-- it is put back behind the batch's last
pub put-same : (limit : ℕ) (m : ℕ → ℕ) (l : List ℕ) (x y k : ℕ) → m y ≡ 0 → potential limit m (put_behind k y l) (suc y) x ≡ potential limit m l (suc y) x
put-same limit m l x y k e = three m (suc y) x
    (λ i. at-moved limit m (put_behind k y l) (suc y) x i ∙ (all ∙ sym (at-moved limit m l (suc y) x i)))
    (λ n z. at-free limit m (put_behind k y l) (suc y) x n z ∙ ((λ j. front (free limit m (suc y)) (free-moved limit m y) n j + batch-same limit m (put_behind k y l) l all (last-put m k y l e) j) ∙ sym (at-free limit m l (suc y) x n z)))
    (λ n z. at-marked limit m (put_behind k y l) (suc y) x n z ∙ (front (marked m) (marked-none m y e) n ∙ sym (at-marked limit m l (suc y) x n z)))
  where
    all : weigh (marked m) (put_behind k y l) ≡ weigh (marked m) l
    all = weigh-put (marked m) k y l (marked-none m y e)

    front : (f : ℕ → ℕ) → f y ≡ 0 → suc y ≢ suc x → weigh f (ahead x (put_behind k y l)) ≡ weigh f (ahead x l)
    front f h n = weigh-ahead-put f k y x l h (λ i. n (ap suc (sym i)))

-- the first leaves: the numbers of those behind it stay
module _ (limit : ℕ) (m m' : ℕ → ℕ) (q : ℕ) (xs : List ℕ) (moved x : ℕ) (pos : 0 < limit) (prefix : EachPair (MarkedFirst m) (q ∷ xs))
    (same : (z : ℕ) → 0 < times z xs → m' z ≡ m z) (own : m' x ≡ m x) (other : q ≢ x) (batch : 0 < moved → 0 < last_marked m (q ∷ xs)) (unmarked : (y : ℕ) → moved ≡ suc y → m y ≡ 0)
    (inside : (0 < times x xs) ⊎ (moved ≡ suc x)) where
  rest-marked : weigh (marked m') xs ≡ weigh (marked m) xs
  rest-marked = weigh-cong (marked m') (marked m) xs (λ z h. marked-same m' m z (same z h))

  front : (f : ℕ → ℕ) → weigh f (ahead x (q ∷ xs)) ≡ f q + weigh f (ahead x xs)
  front f = ap (weigh f) (ahead-miss x q xs other)

  -- where a batch stands, the first is of it
  first-of-batch : 0 < last_marked m (q ∷ xs) → 0 < m q
  first-of-batch h = by (last_marked m (q ∷ xs)) refl h
    where
      by : (n : ℕ) → last_marked m (q ∷ xs) ≡ n → 0 < n → 0 < m q
      by zero e h = absurd (omega arith)
      by (suc k) e h = let a = last-inside m k (q ∷ xs) e in first-marked m q k xs prefix a.0 a.1

  last-same : last_marked m' xs ≡ last_marked m xs
  last-same = last-cong m' m xs same

  -- the first has a batch number
  batch-falls : 0 < m q → batch_weight limit m' xs + 1 ≤ batch_weight limit m (q ∷ xs)
  batch-falls h = by (last_marked m xs) refl
    where
      head : marked m q ≡ 1
      head = marked-one m q h

      by : (n : ℕ) → last_marked m xs ≡ n → batch_weight limit m' xs + 1 ≤ batch_weight limit m (q ∷ xs)
      by zero e = let a = batch-none limit m' xs (last-same ∙ e) in let b = batch-some limit q m (q ∷ xs) (grind (arith, nat_tests)) in let c = head in omega arith
      by (suc k) e = let a = batch-some limit k m' xs (last-same ∙ e) in let b = batch-some limit k m (q ∷ xs) (grind (arith, nat_tests)) in let c = head in let d = rest-marked in
          let f : m' k ≡ m k = same k (last-inside m k xs e).0 in omega arith

  -- the first has none, so nobody has
  none-behind : m q ≡ 0 → (last_marked m (q ∷ xs) ≡ 0) × (last_marked m xs ≡ 0)
  none-behind e = let a : last_marked m (q ∷ xs) ≡ 0 = none-marked m q xs prefix e in (a, grind (arith, nat_tests))

  free-first : m q ≡ 0 → free limit m moved q ≡ limit
  free-first e = Chain.by_eq moved (suc q)
      (λ i. absurd (let a = first-of-batch (batch (omega arith)) in omega arith))
      (λ n. grind (arith, nat_tests))

  free-rest : weigh (free limit m' moved) (ahead x xs) ≡ weigh (free limit m moved) (ahead x xs)
  free-rest = weigh-cong (free limit m' moved) (free limit m moved) (ahead x xs) (λ z h. free-same limit m' m moved z (same z (ahead-in x z xs h)))

  free-falls : m x ≡ 0 → moved ≢ suc x → potential limit m' xs moved x + 1 ≤ potential limit m (q ∷ xs) moved x
  free-falls e n = let a = at-free limit m' xs moved x n (own ∙ e) in let b = at-free limit m (q ∷ xs) moved x n e in let c = front (free limit m moved) in let d = free-rest in by (m q) refl a b c d
    where
      by : (k : ℕ) → m q ≡ k → potential limit m' xs moved x ≡ weigh (free limit m' moved) (ahead x xs) + batch_weight limit m' xs
          → potential limit m (q ∷ xs) moved x ≡ weigh (free limit m moved) (ahead x (q ∷ xs)) + batch_weight limit m (q ∷ xs)
          → weigh (free limit m moved) (ahead x (q ∷ xs)) ≡ free limit m moved q + weigh (free limit m moved) (ahead x xs)
          → weigh (free limit m' moved) (ahead x xs) ≡ weigh (free limit m moved) (ahead x xs)
          → potential limit m' xs moved x + 1 ≤ potential limit m (q ∷ xs) moved x
      by zero e a b c d = let u = none-behind e in let f = batch-none limit m' xs (last-same ∙ u.1) in let g = free-first e in omega arith
      by (suc k) e a b c d = let f = batch-falls (omega arith) in omega arith

  moved-falls : moved ≡ suc x → potential limit m' xs moved x + 1 ≤ potential limit m (q ∷ xs) moved x
  moved-falls i = let a = at-moved limit m' xs moved x i in let b = at-moved limit m (q ∷ xs) moved x i in let c = rest-marked in let d = marked-one m q (first-of-batch (batch (omega arith))) in omega arith

  marked-falls : 0 < m x → moved ≢ suc x → potential limit m' xs moved x + 1 ≤ potential limit m (q ∷ xs) moved x
  marked-falls h n = let a = at-marked limit m' xs moved x n (subst (λ v. 0 < v) (sym own) h) in let b = at-marked limit m (q ∷ xs) moved x n h in let c = front (marked m) in
      let d = weigh-cong (marked m') (marked m) (ahead x xs) (λ z k. marked-same m' m z (same z (ahead-in x z xs k))) in
      let f : 0 < times x (q ∷ xs) = ⊎_elim (λ k. (let u = k in omega arith)) (λ k. absurd (n k)) inside in
      let g = marked-one m q (first-marked m q x xs prefix f h) in omega arith

  pub leave-lower : potential limit m' xs moved x + 1 ≤ potential limit m (q ∷ xs) moved x
  leave-lower = three m moved x moved-falls (λ n e. free-falls e n) (λ n h. marked-falls h n)
