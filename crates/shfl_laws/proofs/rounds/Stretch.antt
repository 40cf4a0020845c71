-- The part of the line that a round has come through, as the line changes.
use Rattle.std.proofs.Common.{◌≡◌, ◌≢◌, ℕ, zero, suc, ◌+◌, ◌<◌, ◌≤◌, List, [], ◌∷◌, ◌++◌, cond, ◌==◌, length, refl, sym, ap, ◌∙◌, subst, arith}
use Rattle.std.proofs.lemmas.Bool.Decides.{nat_tests}
use Rattle.shfl_line.specs.Passes.{times, follower, behind, without, put_behind, last_marked, EachPair, MarkedFirst}
use Rattle.shfl_line.proofs.Chain
use Rattle.shfl_line.proofs.Marks
use Rattle.shfl_line.proofs.Behind.{follower-inside, behind-inside, last-inside, put-hit, put-miss}
use Rattle.shfl_line.proofs.Batches.{last-none}
use Rattle.shfl_laws.specs.RoundMeasure.{from, upto, stretch}

pub from-hit : (p x : ℕ) (xs : List ℕ) → x ≡ p → from p (x ∷ xs) ≡ x ∷ xs
from-hit p x xs e = grind (arith, nat_tests)

pub from-miss : (p x : ℕ) (xs : List ℕ) → x ≢ p → from p (x ∷ xs) ≡ from p xs
from-miss p x xs n = grind (arith, nat_tests)

upto-hit : (q x : ℕ) (xs : List ℕ) → x ≡ q → upto q (x ∷ xs) ≡ x ∷ []
upto-hit q x xs e = grind (arith, nat_tests)

upto-miss : (q x : ℕ) (xs : List ℕ) → x ≢ q → upto q (x ∷ xs) ≡ x ∷ upto q xs
upto-miss q x xs n = grind (arith, nat_tests)

behind-hit : (l x : ℕ) (xs : List ℕ) → x ≡ l → behind l (x ∷ xs) ≡ xs
behind-hit l x xs e = grind (arith, nat_tests)

behind-miss : (l x : ℕ) (xs : List ℕ) → x ≢ l → behind l (x ∷ xs) ≡ behind l xs
behind-miss l x xs n = grind (arith, nat_tests)

pub from-times : (q p : ℕ) (xs : List ℕ) → times q (from p xs) ≤ times q xs
from-times q p [] = omega arith
from-times q p (x ∷ xs) = Chain.by_eq x p (λ e. rw (from-hit p x xs e) (omega arith)) (λ n. rw (from-miss p x xs n) (let ih = from-times q p xs in omega arith))

pub from-length : (p : ℕ) (xs : List ℕ) → length (from p xs) ≤ length xs
from-length p [] = omega arith
from-length p (x ∷ xs) = Chain.by_eq x p (λ e. rw (from-hit p x xs e) (omega arith)) (λ n. rw (from-miss p x xs n) (let ih = from-length p xs in omega arith))

pub upto-length : (q : ℕ) (xs : List ℕ) → length (upto q xs) ≤ length xs
upto-length q [] = omega arith
upto-length q (x ∷ xs) = Chain.by_eq x q (λ e. rw (upto-hit q x xs e) (omega arith)) (λ n. rw (upto-miss q x xs n) (let ih = upto-length q xs in omega arith))

-- one more joins at the end
from-push : (p r : ℕ) (xs : List ℕ) → 0 < times p xs → from p (xs ++ r ∷ []) ≡ from p xs ++ r ∷ []
from-push p r [] m = absurd (omega arith)
from-push p r (x ∷ xs) m = Chain.by_eq x p
    (λ e. from-hit p x (xs ++ r ∷ []) e ∙ ap (λ l. l ++ r ∷ []) (sym (from-hit p x xs e)))
    (λ n. from-miss p x (xs ++ r ∷ []) n ∙ (from-push p r xs (grind (arith, nat_tests)) ∙ ap (λ l. l ++ r ∷ []) (sym (from-miss p x xs n))))

upto-push : (q r : ℕ) (xs : List ℕ) → 0 < times q xs → upto q (xs ++ r ∷ []) ≡ upto q xs
upto-push q r [] m = absurd (omega arith)
upto-push q r (x ∷ xs) m = Chain.by_eq x q
    (λ e. upto-hit q x (xs ++ r ∷ []) e ∙ sym (upto-hit q x xs e))
    (λ n. upto-miss q x (xs ++ r ∷ []) n ∙ (ap (λ l. x ∷ l) (upto-push q r xs (grind (arith, nat_tests))) ∙ sym (upto-miss q x xs n)))

pub stretch-push : (p q r : ℕ) (xs : List ℕ) → 0 < times p xs → 0 < times q (from p xs) → stretch p q (xs ++ r ∷ []) ≡ stretch p q xs
stretch-push p q r xs m h = ap (upto q) (from-push p r xs m) ∙ upto-push q r (from p xs) h

-- the first leaves, who isn't p
pub stretch-leave : (p q x : ℕ) (xs : List ℕ) → x ≢ p → stretch p q (x ∷ xs) ≡ stretch p q (without x (x ∷ xs))
stretch-leave p q x xs n = ap (upto q) (from-miss p x xs n) ∙ sym (ap (λ l. upto q (from p l)) (Chain.without-hit x x xs refl))

follower-miss : (q x c : ℕ) (xs : List ℕ) → x ≢ q → follower q (x ∷ xs) ≡ suc c → follower q xs ≡ suc c
follower-miss q x c [] n e = absurd (omega arith)
follower-miss q x c (y ∷ ys) n e = sym (Chain.follower-there q x y ys (λ i. n (sym i))) ∙ e

-- the round goes one pass on
upto-next : (q c : ℕ) (xs : List ℕ) → ((z : ℕ) → times z xs ≤ 1) → follower q xs ≡ suc c → length (upto c xs) ≡ length (upto q xs) + 1
upto-next q c [] o e = absurd (omega arith)
upto-next q c (x ∷ []) o e = absurd (omega arith)
upto-next q c (x ∷ y ∷ ys) o e = Chain.by_eq x q
    (λ i. let f : y ≡ c = (let a : follower q (x ∷ y ∷ ys) ≡ suc y = subst (λ z. follower z (x ∷ y ∷ ys) ≡ suc y) i (Chain.follower-here x y ys) in omega arith) in
    let n : x ≢ c = λ j. (let t = o x in let u = Chain.here y ys in let k : x ≡ y = j ∙ sym f in let v : 0 < times x (y ∷ ys) = subst (λ z. 0 < times z (y ∷ ys)) (sym k) u in let w : times x (x ∷ y ∷ ys) ≡ 1 + times x (y ∷ ys) = grind (arith, nat_tests) in omega arith) in
    ap length (upto-miss c x (y ∷ ys) n) ∙ (ap (λ l. suc (length l)) (upto-hit c y ys f) ∙ (let a : length (upto q (x ∷ y ∷ ys)) ≡ 1 = ap length (upto-hit q x (y ∷ ys) i) in omega arith)))
    (λ m. let f = follower-miss q x c (y ∷ ys) m e in let u = follower-inside q c (y ∷ ys) f in
    let n : x ≢ c = λ j. (let t = o x in let v : 0 < times x (y ∷ ys) = subst (λ z. 0 < times z (y ∷ ys)) (sym j) u in let w : times x (x ∷ y ∷ ys) ≡ 1 + times x (y ∷ ys) = grind (arith, nat_tests) in omega arith) in
    let ih = upto-next q c (y ∷ ys) (λ z. let t = o z in omega arith) f in
    let a : length (upto c (x ∷ y ∷ ys)) ≡ suc (length (upto c (y ∷ ys))) = ap length (upto-miss c x (y ∷ ys) n) in
    let b : length (upto q (x ∷ y ∷ ys)) ≡ suc (length (upto q (y ∷ ys))) = ap length (upto-miss q x (y ∷ ys) m) in omega arith)

follower-from : (p q c : ℕ) (xs : List ℕ) → ((z : ℕ) → times z xs ≤ 1) → 0 < times q (from p xs) → follower q xs ≡ suc c → follower q (from p xs) ≡ suc c
follower-from p q c [] o m e = absurd (omega arith)
follower-from p q c (x ∷ xs) o m e = Chain.by_eq x p
    (λ i. ap (follower q) (from-hit p x xs i) ∙ e)
    (λ n. let l = from-miss p x xs n in let k : 0 < times q (from p xs) = subst (λ (z : List ℕ). 0 < times q z) l m in
    let d : x ≢ q = λ j. (let t = o q in let u = from-times q p xs in grind (arith, nat_tests)) in
    ap (follower q) l ∙ follower-from p q c xs (λ z. let t = o z in omega arith) k (follower-miss q x c xs d e))

pub from-once : (p : ℕ) (xs : List ℕ) → ((z : ℕ) → times z xs ≤ 1) → (z : ℕ) → times z (from p xs) ≤ 1
from-once p xs o z = let a = from-times z p xs in let b = o z in omega arith

pub stretch-next : (p q c : ℕ) (xs : List ℕ) → ((z : ℕ) → times z xs ≤ 1) → 0 < times q (from p xs) → follower q xs ≡ suc c → length (stretch p c xs) ≡ length (stretch p q xs) + 1
stretch-next p q c xs o m e = upto-next q c (from p xs) (from-once p xs o) (follower-from p q c xs o m e)

-- the candidate behind the round's place is taken out
from-without : (p c : ℕ) (xs : List ℕ) → ((z : ℕ) → times z xs ≤ 1) → p ≢ c → 0 < times c (from p xs) → from p (without c xs) ≡ without c (from p xs)
from-without p c [] o n m = refl
from-without p c (x ∷ xs) o n m = Chain.by_eq x p
    (λ i. let d : x ≢ c = λ j. n (sym i ∙ j) in
    ap (from p) (Chain.without-miss x c xs d) ∙ (from-hit p x (without c xs) i ∙ (sym (Chain.without-miss x c xs d) ∙ ap (without c) (sym (from-hit p x xs i)))))
    (λ k. let l = from-miss p x xs k in let u : 0 < times c (from p xs) = subst (λ (z : List ℕ). 0 < times c z) l m in
    let d : x ≢ c = λ j. (let t = o c in let v = from-times c p xs in grind (arith, nat_tests)) in
    ap (from p) (Chain.without-miss x c xs d) ∙ (from-miss p x (without c xs) k ∙ (from-without p c xs (λ z. let t = o z in omega arith) n u ∙ ap (without c) (sym l))))

upto-without : (q c : ℕ) (xs : List ℕ) → ((z : ℕ) → times z xs ≤ 1) → follower q xs ≡ suc c → upto q (without c xs) ≡ upto q xs
upto-without q c [] o e = refl
upto-without q c (x ∷ []) o e = absurd (omega arith)
upto-without q c (x ∷ y ∷ ys) o e = let w : times c (x ∷ y ∷ ys) ≡ cond (x == c) 1 0 + times c (y ∷ ys) = refl in Chain.by_eq x q
    (λ i. let f : y ≡ c = (let a : follower q (x ∷ y ∷ ys) ≡ suc y = subst (λ z. follower z (x ∷ y ∷ ys) ≡ suc y) i (Chain.follower-here x y ys) in omega arith) in
    let n : x ≢ c = apart f (o c) in
    ap (upto q) (Chain.without-miss x c (y ∷ ys) n) ∙ (upto-hit q x (without c (y ∷ ys)) i ∙ sym (upto-hit q x (y ∷ ys) i)))
    (λ m. let f = follower-miss q x c (y ∷ ys) m e in let u = follower-inside q c (y ∷ ys) f in
    let n : x ≢ c = λ j. (let t = o c in grind (arith, nat_tests)) in
    ap (upto q) (Chain.without-miss x c (y ∷ ys) n) ∙ (upto-miss q x (without c (y ∷ ys)) m ∙ (ap (λ l. x ∷ l) (upto-without q c (y ∷ ys) (λ z. let t = o z in omega arith) f) ∙ sym (upto-miss q x (y ∷ ys) m))))
  where
    apart : y ≡ c → times c (x ∷ y ∷ ys) ≤ 1 → x ≢ c
    apart f t j = let u : 0 < times c (y ∷ ys) = subst (λ z. 0 < times z (y ∷ ys)) f (Chain.here y ys) in grind (arith, nat_tests)

pub stretch-pick : (p q c : ℕ) (xs : List ℕ) → ((z : ℕ) → times z xs ≤ 1) → p ≢ c → 0 < times q (from p xs) → follower q xs ≡ suc c → stretch p q (without c xs) ≡ stretch p q xs
stretch-pick p q c xs o n m e = let f = follower-from p q c xs o m e in
    ap (upto q) (from-without p c xs o n (follower-inside q c (from p xs) f)) ∙ upto-without q c (from p xs) (from-once p xs o) f

-- the detached pass comes back behind l, before the round's place
from-put : (p l c : ℕ) (xs : List ℕ) → ((z : ℕ) → times z xs ≤ 1) → 0 < times l (from p xs) → from p (put_behind l c xs) ≡ put_behind l c (from p xs)
from-put p l c [] o m = refl
from-put p l c (x ∷ xs) o m = Chain.by_eq x p
    (λ i. Chain.by_eq x l
    (λ j. ap (from p) (put-hit l c x xs j) ∙ (from-hit p x (c ∷ xs) i ∙ (sym (put-hit l c x xs j) ∙ ap (put_behind l c) (sym (from-hit p x xs i)))))
    (λ d. ap (from p) (put-miss l c x xs d) ∙ (from-hit p x (put_behind l c xs) i ∙ (sym (put-miss l c x xs d) ∙ ap (put_behind l c) (sym (from-hit p x xs i))))))
    (λ k. let e = from-miss p x xs k in let u : 0 < times l (from p xs) = subst (λ (z : List ℕ). 0 < times l z) e m in
    let d : x ≢ l = λ j. (let t = o l in let v = from-times l p xs in grind (arith, nat_tests)) in
    ap (from p) (put-miss l c x xs d) ∙ (from-miss p x (put_behind l c xs) k ∙ (from-put p l c xs (λ z. let t = o z in omega arith) u ∙ ap (put_behind l c) (sym e))))

upto-put : (q l c : ℕ) (xs : List ℕ) → ((z : ℕ) → times z xs ≤ 1) → q ≢ c → 0 < times q (behind l xs) → length (upto q (put_behind l c xs)) ≡ length (upto q xs) + 1
upto-put q l c [] o n m = absurd (omega arith)
upto-put q l c (x ∷ xs) o n m = Chain.by_eq x l
    (λ i. let u : 0 < times q xs = subst (λ (z : List ℕ). 0 < times q z) (behind-hit l x xs i) m in
    let d : x ≢ q = λ j. (let t = o q in grind (arith, nat_tests)) in
    let a : upto q (put_behind l c (x ∷ xs)) ≡ x ∷ c ∷ upto q xs = ap (upto q) (put-hit l c x xs i) ∙ (upto-miss q x (c ∷ xs) d ∙ ap (λ z. x ∷ z) (upto-miss q c xs (λ j. n (sym j)))) in
    let b : upto q (x ∷ xs) ≡ x ∷ upto q xs = upto-miss q x xs d in
    let e : length (upto q (put_behind l c (x ∷ xs))) ≡ suc (suc (length (upto q xs))) = ap length a in let f : length (upto q (x ∷ xs)) ≡ suc (length (upto q xs)) = ap length b in omega arith)
    (λ k. let v : 0 < times q (behind l xs) = subst (λ (z : List ℕ). 0 < times q z) (behind-miss l x xs k) m in let u = behind-inside q l xs v in
    let d : x ≢ q = λ j. (let t = o q in grind (arith, nat_tests)) in
    let ih = upto-put q l c xs (λ z. let t = o z in omega arith) n v in
    let e : length (upto q (put_behind l c (x ∷ xs))) ≡ suc (length (upto q (put_behind l c xs))) = ap length (ap (upto q) (put-miss l c x xs k) ∙ upto-miss q x (put_behind l c xs) d) in
    let f : length (upto q (x ∷ xs)) ≡ suc (length (upto q xs)) = ap length (upto-miss q x xs d) in omega arith)

behind-from : (p l q : ℕ) (xs : List ℕ) → ((z : ℕ) → times z xs ≤ 1) → 0 < times l (from p xs) → 0 < times q (behind l xs) → 0 < times q (behind l (from p xs))
behind-from p l q [] o m h = h
behind-from p l q (x ∷ xs) o m h = Chain.by_eq x p
    (λ i. subst (λ (z : List ℕ). 0 < times q (behind l z)) (sym (from-hit p x xs i)) h)
    (λ k. let e = from-miss p x xs k in let u : 0 < times l (from p xs) = subst (λ (z : List ℕ). 0 < times l z) e m in
    let d : x ≢ l = λ j. (let t = o l in let v = from-times l p xs in grind (arith, nat_tests)) in
    subst (λ (z : List ℕ). 0 < times q (behind l z)) (sym e) (behind-from p l q xs (λ z. let t = o z in omega arith) u (subst (λ (z : List ℕ). 0 < times q z) (behind-miss l x xs d) h)))

pub stretch-place : (p q l c : ℕ) (xs : List ℕ) → ((z : ℕ) → times z xs ≤ 1) → q ≢ c → 0 < times l (from p xs) → 0 < times q (behind l xs) → length (stretch p q (put_behind l c xs)) ≡ length (stretch p q xs) + 1
stretch-place p q l c xs o n m h = ap (λ z. length (upto q z)) (from-put p l c xs o m) ∙ upto-put q l c (from p xs) (from-once p xs o) n (behind-from p l q xs o m h)

-- from a pass of the batch on: the batch's last, and whoever has no batch number
pub last-from : (m : ℕ → ℕ) (p l : ℕ) (xs : List ℕ) → 0 < times p xs → 0 < m p → last_marked m xs ≡ suc l → 0 < times l (from p xs)
last-from m p l [] h k e = absurd (omega arith)
last-from m p l (x ∷ xs) h k e = Chain.by_eq x p
    (λ i. subst (λ (z : List ℕ). 0 < times l z) (sym (from-hit p x xs i)) (last-inside m l (x ∷ xs) e).0)
    (λ n. let u : 0 < times p xs = grind (arith, nat_tests) in subst (λ (z : List ℕ). 0 < times l z) (sym (from-miss p x xs n)) (last-from m p l xs u k (tail u)))
  where
    tail : 0 < times p xs → last_marked m xs ≡ suc l
    tail u = by (last_marked m xs) refl e
      where
        by : (n : ℕ) → last_marked m xs ≡ n → cond (last_marked m xs == 0) (cond (m x == 0) 0 (suc x)) (last_marked m xs) ≡ suc l → last_marked m xs ≡ suc l
        by zero z f = absurd (let a = last-none m p xs z u in omega arith)
        by (suc n) z f = grind (arith, nat_tests)

pub unmarked-from : (m : ℕ → ℕ) (p q : ℕ) (xs : List ℕ) → EachPair (MarkedFirst m) xs → 0 < times p xs → 0 < m p → 0 < times q xs → m q ≡ 0 → 0 < times q (from p xs)
unmarked-from m p q [] c h k u z = absurd (omega arith)
unmarked-from m p q (x ∷ xs) c h k u z = Chain.by_eq x p
    (λ i. subst (λ (y : List ℕ). 0 < times q y) (sym (from-hit p x xs i)) u)
    (λ n. let hp : 0 < times p xs = grind (arith, nat_tests) in
    let d : x ≢ q = λ j. (let a = Marks.first-marked m x p xs c h k in let b : m x ≡ 0 = subst (λ y. m y ≡ 0) (sym j) z in omega arith) in
    subst (λ (y : List ℕ). 0 < times q y) (sym (from-miss p x xs n)) (unmarked-from m p q xs (Marks.chain-tail (MarkedFirst m) x xs c) hp k (grind (arith, nat_tests)) z))

pub follower-apart : (p q c : ℕ) (xs : List ℕ) → ((z : ℕ) → times z xs ≤ 1) → 0 < times q (from p xs) → follower q xs ≡ suc c → p ≢ c
follower-apart p q c [] o m e = absurd (omega arith)
follower-apart p q c (x ∷ xs) o m e = Chain.by_eq x p
    (λ i j. let u : 0 < times c xs = (Chain.follower-in q x c xs e).1 in let k : x ≡ c = i ∙ j in let t = o c in grind (arith, nat_tests))
    (λ n. let l = from-miss p x xs n in let k : 0 < times q (from p xs) = subst (λ (z : List ℕ). 0 < times q z) l m in
    let d : x ≢ q = λ j. (let t = o q in let u = from-times q p xs in grind (arith, nat_tests)) in
    follower-apart p q c xs (λ z. let t = o z in omega arith) k (follower-miss q x c xs d e))
