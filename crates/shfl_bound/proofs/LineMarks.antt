-- The potential where a batch number is written: a batch begins, or one more comes to it.
use Rattle.std.proofs.Common.{◌≡◌, ◌≢◌, ℕ, zero, suc, ◌+◌, ◌-◌, ◌<◌, ◌≤◌, List, [], ◌∷◌, refl, sym, ap, ◌∙◌, subst, arith}
use Rattle.std.proofs.lemmas.Bool.Decides.{nat_tests}
use Rattle.shfl_line.specs.Passes.{times, EachPair, MarkedFirst, last_marked, follower}
use Rattle.shfl_line.proofs.Chain
use Rattle.shfl_line.proofs.Marks.{first-marked, none-marked}
use Rattle.shfl_line.proofs.Batches.{last-head, last-tail, last-cong}
use Rattle.shfl_bound.specs.Departures.{ahead}
use Rattle.shfl_bound.proofs.Ahead.{weigh, weigh-cong, weigh-all, weigh-ahead, ahead-hit, ahead-miss, ahead-in, ahead-self, ahead-marked}
use Rattle.shfl_bound.proofs.Potential.{marked, free, batch_weight, potential, at-moved, at-free, at-marked, batch-none, batch-some}
use Rattle.shfl_bound.proofs.LineEdits.{three, marked-none, marked-one, marked-same, free-same, free-marked}

-- the first, which has no batch number, begins a batch: nobody has a number before
module _ (limit : ℕ) (m m' : ℕ → ℕ) (p : ℕ) (xs : List ℕ) (x : ℕ) (pos : 0 < limit) (prefix : EachPair (MarkedFirst m) (p ∷ xs)) (away : times p xs ≡ 0)
    (none : m p ≡ 0) (first : m' p ≡ 1) (same : (z : ℕ) → z ≢ p → m' z ≡ m z) (inside : 0 < times x (p ∷ xs)) where
  unmarked : (z : ℕ) → 0 < times z (p ∷ xs) → m z ≡ 0
  unmarked z h = by (m z) refl
    where
      by : (k : ℕ) → m z ≡ k → m z ≡ 0
      by zero e = e
      by (suc k) e = absurd (let a = first-marked m p z xs prefix h (omega arith) in omega arith)

  behind : (z : ℕ) → 0 < times z xs → m' z ≡ m z
  behind z h = same z (λ e. let a : 0 < times p xs = subst (λ k. 0 < times k xs) e h in omega arith)

  none-behind : last_marked m' xs ≡ 0
  none-behind = last-cong m' m xs behind ∙ (let a : last_marked m (p ∷ xs) ≡ 0 = none-marked m p xs prefix none in grind (arith, nat_tests))

  batch-after : batch_weight limit m' (p ∷ xs) ≡ limit
  batch-after = let a = none-behind in let b = batch-some limit p m' (p ∷ xs) (grind (arith, nat_tests)) in
      let c : weigh (marked m') xs ≡ 0 = weigh-cong (marked m') (λ _. 0) xs (λ z h. marked-none m' z (behind z h ∙ unmarked z (omega arith))) ∙ (weigh-all 0 xs ∙ (omega arith)) in
      let d = marked-one m' p (omega arith) in omega arith

  pub begin-lower : potential limit m' (p ∷ xs) 0 x ≤ potential limit m (p ∷ xs) 0 x
  begin-lower = Chain.by_eq p x
      (λ e. let a = at-marked limit m' (p ∷ xs) 0 x (λ j. absurd (omega arith)) (let b : m' x ≡ 1 = subst (λ k. m' k ≡ 1) e first in omega arith) in
      let c : weigh (marked m') (ahead x (p ∷ xs)) ≡ 0 = ap (weigh (marked m')) (ahead-hit x p xs e) in omega arith)
      (λ n. let z : m x ≡ 0 = unmarked x inside in let i : 0 < times x xs = grind (arith, nat_tests) in
      let a = at-free limit m' (p ∷ xs) 0 x (λ j. absurd (omega arith)) (behind x i ∙ z) in let b = at-free limit m (p ∷ xs) 0 x (λ j. absurd (omega arith)) z in
      let c = batch-after in let d = batch-none limit m (p ∷ xs) (none-marked m p xs prefix none) in
      let f : weigh (free limit m' 0) (ahead x (p ∷ xs)) ≡ free limit m' 0 p + weigh (free limit m' 0) (ahead x xs) = ap (weigh (free limit m' 0)) (ahead-miss x p xs n) in
      let g : weigh (free limit m 0) (ahead x (p ∷ xs)) ≡ free limit m 0 p + weigh (free limit m 0) (ahead x xs) = ap (weigh (free limit m 0)) (ahead-miss x p xs n) in
      let h = weigh-cong (free limit m' 0) (free limit m 0) (ahead x xs) (λ q k. free-same limit m' m 0 q (behind q (ahead-in x q xs k))) in
      let u = free-marked limit m' 0 p (omega arith) in let v : free limit m 0 p ≡ limit = grind (arith, nat_tests) in omega arith)

-- one more place is counted once for each time that it stands there
weigh-more : (f g : ℕ → ℕ) (y : ℕ) (l : List ℕ) → f y ≡ g y + 1 → ((z : ℕ) → z ≢ y → f z ≡ g z) → weigh f l ≡ weigh g l + times y l
weigh-more f g y [] e h = refl
weigh-more f g y (z ∷ zs) e h = let a = weigh-more f g y zs e h in Chain.by_eq z y
    (λ i. let b : f z ≡ g z + 1 = subst (λ k. f k ≡ g k + 1) (sym i) e in grind (arith, nat_tests))
    (λ n. let b = h z n in grind (arith, nat_tests))

-- the pass directly behind the batch's last gets a number: it is the last now
pub last-more : (m m' : ℕ → ℕ) (k y : ℕ) (l : List ℕ) → last_marked m l ≡ suc k → follower k l ≡ suc y → ((q : ℕ) → times q l ≤ 1) → 0 < m' y → ((z : ℕ) → z ≢ y → m' z ≡ m z) → last_marked m' l ≡ suc y
last-more m m' k y [] e f o h s = absurd (omega arith)
last-more m m' k y (x ∷ []) e f o h s = absurd (omega arith)
last-more m m' k y (x ∷ z ∷ zs) e f o h s = Chain.by_eq x k
    (λ i. let zy : z ≡ y = grind (arith, nat_tests) in let away : times x (z ∷ zs) ≡ 0 = (let t = o x in grind (arith, nat_tests)) in
    let none = last-head m x (z ∷ zs) (e ∙ ap suc (sym i)) away in
    let rest : last_marked m' zs ≡ 0 = last-cong m' m zs (λ q j. s q (λ d. let t = o q in let u : z ≡ q = zy ∙ sym d in grind (arith, nat_tests))) ∙ (let a = none in grind (arith, nat_tests)) in
    let zm : 0 < m' z = subst (λ v. 0 < m' v) (sym zy) h in let here : last_marked m' (z ∷ zs) ≡ suc z = grind (arith, nat_tests) in
    up (z ∷ zs) z here ∙ ap suc zy)
    (λ n. let t = last-tail m x k (z ∷ zs) e n in let g : follower k (z ∷ zs) ≡ suc y = sym (Chain.follower-there k x z zs (λ j. n (sym j))) ∙ f in
    up (z ∷ zs) y (last-more m m' k y (z ∷ zs) t g (λ q. let u = o q in omega arith) h s))
  where
    up : (ys : List ℕ) (v : ℕ) → last_marked m' ys ≡ suc v → last_marked m' (x ∷ ys) ≡ suc v
    up ys v i = grind (arith, nat_tests)

-- the one that is moved up gets its number
module _ (limit : ℕ) (m m' : ℕ → ℕ) (l : List ℕ) (x y k : ℕ) (prefix : EachPair (MarkedFirst m) l) (once : (q : ℕ) → times q l ≤ 1)
    (none : m y ≡ 0) (number : m' y ≡ m k + 1) (same : (z : ℕ) → z ≢ y → m' z ≡ m z) (last : last_marked m l ≡ suc k) (next : follower k l ≡ suc y) (in-line : 0 < times y l)
    (room : m k < limit) (inside : 0 < times x l) where
  batch-before : batch_weight limit m l ≡ weigh (marked m) l + (limit - m k)
  batch-before = batch-some limit k m l last

  all : weigh (marked m') l ≡ weigh (marked m) l + 1
  all = let a = weigh-more (marked m') (marked m) y l (let b = marked-one m' y (omega arith) in let c = marked-none m y none in omega arith) (λ z n. marked-same m' m z (same z n)) in let b = once y in omega arith

  batch-then : batch_weight limit m' l ≡ weigh (marked m') l + (limit - m' y)
  batch-then = batch-some limit y m' l (last-more m m' k y l last next once (omega arith) same)

  frees : (z : ℕ) → free limit m' 0 z ≡ free limit m (suc y) z
  frees z = Chain.by_eq z y
      (λ e. let a : m' z ≡ m k + 1 = subst (λ v. m' v ≡ m k + 1) (sym e) number in grind (arith, nat_tests))
      (λ n. let a = same z n in grind (arith, nat_tests))

  pub keep-lower : potential limit m' l 0 x ≤ potential limit m l (suc y) x
  keep-lower = three m (suc y) x
      (λ i. let s : y ≡ x = omega arith in let a = at-moved limit m l (suc y) x i in let b = at-marked limit m' l 0 x (λ j. absurd (omega arith)) (let c : m' x ≡ m k + 1 = subst (λ v. m' v ≡ m k + 1) s number in omega arith) in
      let c = weigh-cong (marked m') (marked m) (ahead x l) (λ z h. marked-same m' m z (same z (λ e. let u = ahead-self x l in let v : 0 < times x (ahead x l) = subst (λ w. 0 < times w (ahead x l)) (e ∙ s) h in omega arith))) in
      let d = weigh-ahead (marked m) x l in omega arith)
      (λ n z. let a = at-free limit m l (suc y) x n z in let b = at-free limit m' l 0 x (λ j. absurd (omega arith)) (same x (λ e. n (ap suc (sym e))) ∙ z) in
      let c = weigh-cong (free limit m' 0) (free limit m (suc y)) (ahead x l) (λ q _. frees q) in let d = batch-before in let f = batch-then in let g = all in omega arith)
      (λ n h. let a = at-marked limit m l (suc y) x n h in let b = at-marked limit m' l 0 x (λ j. absurd (omega arith)) (subst (λ v. 0 < v) (sym (same x (λ e. n (ap suc (sym e))))) h) in
      let c = weigh-cong (marked m') (marked m) (ahead x l) (λ z i. marked-same m' m z (same z (λ e. let u = ahead-marked m x z l prefix inside h i in let v : m z ≡ 0 = subst (λ w. m w ≡ 0) (sym e) none in omega arith))) in omega arith)
