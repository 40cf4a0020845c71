-- Numbers in rising order: a list in order that has the same numbers is the numbers in rising order.
use Rattle.std.proofs.Common.{◌≡◌, ℕ, zero, suc, ◌<◌, ◌≤◌, ◌⊎◌, inl, inr, List, [], ◌∷◌, length, get_or, set, cond, ◌==◌, nat_le, refl, sym, ap, ◌∙◌, arith, length-set, get_or-set_same, get_or-set_other}
use Rattle.std.specs.List.{swap}
use Rattle.std.specs.List.Sorted.{IsPermutation, IsSorted, IsNonDecreasing}
use Rattle.std.specs.Ordering.{nat_cmp}
use Rattle.std.proofs.lemmas.Bool.{cond-true, cond-false, le-leb, lt-leb, eq-eqb, ne_eqb, cases_lt, cases_order, cases_eq}
use Rattle.std.proofs.lemmas.List.Sorted.{IsPermutation-keeps, IsNonDecreasingBy-from_sort}
use Rattle.sim_report.specs.Tallies.{among, rising}

among-le : (n m : ℕ) (ms : List ℕ) → n ≤ m → among n (m ∷ ms) ≡ n ∷ m ∷ ms
among-le n m ms le = cond-true (nat_le n m) (n ∷ m ∷ ms) (m ∷ among n ms) (le-leb n m le)

among-gt : (n m : ℕ) (ms : List ℕ) → m < n → among n (m ∷ ms) ≡ m ∷ among n ms
among-gt n m ms lt = cond-false (nat_le n m) (n ∷ m ∷ ms) (m ∷ among n ms) (lt-leb n m lt)

-- the order in which two numbers are put among others changes nothing
lower-first : (a b : ℕ) (l : List ℕ) → a < b → among a (among b l) ≡ among b (among a l)
lower-first a b [] lt = among-le a b [] (omega arith) ∙ sym (among-gt b a [] lt)
lower-first a b (c ∷ l) lt = by (lower-first a b l lt) (cases_lt c b) where
  over : b ≤ c → among a (among b (c ∷ l)) ≡ among b (among a (c ∷ l))
  over h = ap (among a) (among-le b c l h) ∙ among-le a b (c ∷ l) (omega arith) ∙ ap (λ x. a ∷ x) (sym (among-le b c l h))
      ∙ sym (among-gt b a (c ∷ l) lt) ∙ ap (among b) (sym (among-le a c l (omega arith)))

  between : c < b → a ≤ c → among a (among b (c ∷ l)) ≡ among b (among a (c ∷ l))
  between h k = ap (among a) (among-gt b c l h) ∙ among-le a c (among b l) k ∙ ap (λ x. a ∷ x) (sym (among-gt b c l h))
      ∙ sym (among-gt b a (c ∷ l) lt) ∙ ap (among b) (sym (among-le a c l k))

  under : (among a (among b l) ≡ among b (among a l)) → c < b → c < a → among a (among b (c ∷ l)) ≡ among b (among a (c ∷ l))
  under ih h k = ap (among a) (among-gt b c l h) ∙ among-gt a c (among b l) k ∙ ap (λ x. c ∷ x) ih
      ∙ sym (among-gt b c (among a l) h) ∙ ap (among b) (sym (among-gt a c l k))

  below : (among a (among b l) ≡ among b (among a l)) → c < b → (c < a) ⊎ (a ≤ c) → among a (among b (c ∷ l)) ≡ among b (among a (c ∷ l))
  below ih h (inl k) = under ih h k
  below ih h (inr k) = between h k

  by : (among a (among b l) ≡ among b (among a l)) → (c < b) ⊎ (b ≤ c) → among a (among b (c ∷ l)) ≡ among b (among a (c ∷ l))
  by ih (inl h) = below ih h (cases_lt c a)
  by ih (inr h) = over h

among-twice : (a b : ℕ) (l : List ℕ) → among a (among b l) ≡ among b (among a l)
among-twice a b l = by (cases_order a b) where
  by : (a ≡ b) ⊎ ((a < b) ⊎ (b < a)) → among a (among b l) ≡ among b (among a l)
  by (inl e) = ap (λ x. among x (among b l)) e ∙ ap (λ x. among b (among x l)) (sym e)
  by (inr (inl lt)) = lower-first a b l lt
  by (inr (inr lt)) = sym (lower-first b a l lt)

-- a number in the place of another
among-set : (l : List ℕ) (i v d : ℕ) → i < length l → among (get_or l i d) (rising (set l i v)) ≡ among v (rising l)
among-set [] i v d lt = absurd (omega (arith, lt))
among-set (x ∷ xs) zero v d lt = among-twice x v (rising xs)
among-set (x ∷ xs) (suc i) v d lt = among-twice (get_or xs i d) x (rising (set xs i v)) ∙ ap (among x) (among-set xs i v d (omega (arith, lt))) ∙ among-twice x v (rising xs)

abbrev without : ℕ → List ℕ → List ℕ
without n [] = []
without n (m ∷ ms) = cond (n == m) ms (m ∷ without n ms)

without-among : (n : ℕ) (l : List ℕ) → without n (among n l) ≡ l
without-among n [] = cond-true (n == n) [] (n ∷ []) (eq-eqb n n refl)
without-among n (m ∷ ms) = by (without-among n ms) (cases_lt m n) where
  by : without n (among n ms) ≡ ms → (m < n) ⊎ (n ≤ m) → without n (among n (m ∷ ms)) ≡ m ∷ ms
  by ih (inl lt) = ap (without n) (among-gt n m ms lt) ∙ cond-false (n == m) (among n ms) (m ∷ without n (among n ms)) (ne_eqb n m (λ e. omega (arith, e, lt))) ∙ ap (λ l. m ∷ l) ih
  by ih (inr le) = ap (without n) (among-le n m ms le) ∙ cond-true (n == n) (m ∷ ms) (n ∷ without n (m ∷ ms)) (eq-eqb n n refl)

same-others : (n : ℕ) (a b : List ℕ) → among n a ≡ among n b → a ≡ b
same-others n a b e = sym (without-among n a) ∙ ap (without n) e ∙ without-among n b

stays : (l : List ℕ) (i j d : ℕ) → j < length l → get_or (set l i (get_or l j d)) j d ≡ get_or l j d
stays l i j d lt = by (cases_eq j i) where
  by : (j ≡ i) ⊎ (j ≡ i → ⊥) → get_or (set l i (get_or l j d)) j d ≡ get_or l j d
  by (inl e) = ap (λ k. get_or (set l k (get_or l j d)) j d) (sym e) ∙ get_or-set_same l j (get_or l j d) d lt
  by (inr ne) = get_or-set_other l i j (get_or l j d) d ne

-- an exchange changes nothing
rising-swap : (l : List ℕ) (i j : ℕ) → i < length l → j < length l → rising (swap l i j) ≡ rising l
rising-swap [] i j a b = refl
rising-swap (d ∷ ys) i j a b =
    let l = d ∷ ys in
    let one = set l i (get_or l j d) in
    let within : j < length one = omega (arith, b, length-set l i (get_or l j d)) in
    let first : among (get_or l i d) (rising one) ≡ among (get_or l j d) (rising l) = among-set l i (get_or l j d) d a in
    let second : among (get_or one j d) (rising (set one j (get_or l i d))) ≡ among (get_or l i d) (rising one) = among-set one j (get_or l i d) d within in
    same-others (get_or l j d) (rising (set one j (get_or l i d))) (rising l)
    (ap (λ n. among n (rising (set one j (get_or l i d)))) (sym (stays l i j d b)) ∙ second ∙ first)

rising-moved : (xs ys : List ℕ) → IsPermutation xs ys → rising ys ≡ rising xs
rising-moved xs ys same = IsPermutation-keeps xs (λ l. rising l ≡ rising xs) refl (λ l i j a b e. rising-swap l i j a b ∙ e) ys same

rising-is : (xs : List ℕ) → IsNonDecreasing xs → rising xs ≡ xs
rising-is [] up = refl
rising-is (x ∷ []) up = refl
rising-is (x ∷ y ∷ ys) up = ap (among x) (rising-is (y ∷ ys) (λ i j d le lt. up (suc i) (suc j) d (omega (arith, le)) (omega (arith, lt)))) ∙ among-le x y ys (up 0 1 0 (omega arith) (omega arith))

pub sorted-is : (xs ys : List ℕ) → IsPermutation xs ys → IsSorted nat_cmp ys → ys ≡ rising xs
sorted-is xs ys same sorted = sym (rising-is ys (IsNonDecreasingBy-from_sort (λ x. x) ys sorted)) ∙ rising-moved xs ys same
