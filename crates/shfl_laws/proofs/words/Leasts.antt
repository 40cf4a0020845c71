-- The least number that passes a test, and lists of what a function gives.
use Rattle.std.proofs.Common.{◌≡◌, ◌≢◌, ℕ, zero, suc, ◌<◌, ◌≤◌, List, [], ◌∷◌, ◌++◌, Bool, true, false, cond, ◌==◌, length, get_or, refl, sym, ap, ◌∙◌, subst, arith}
use Rattle.std.specs.Prelude.{slice_index}
use Rattle.std.proofs.lemmas.List.{length_push}
use Rattle.shfl_line.proofs.Chain
use Rattle.shfl_core.specs.ShownLine.{least, each_below}

-- nobody below n passes the test
pub least-none : (test : ℕ → Bool) (n : ℕ) → least test n ≡ 0 → (p : ℕ) → p < n → test p ≡ false
least-none test zero e p h = absurd (omega arith)
least-none test (suc n) e p h = by (least test n) (test n) refl refl e (least-none test n)
  where
    by : (a : ℕ) (b : Bool) → least test n ≡ a → test n ≡ b → cond (a == 0) (cond b (suc n) 0) a ≡ 0 → (least test n ≡ 0 → (p : ℕ) → p < n → test p ≡ false) → test p ≡ false
    by zero false f g i rec = Chain.by_eq p n (λ j. subst (λ z. test z ≡ false) (sym j) g) (λ j. rec f p (omega arith))
    by zero true f g i rec = absurd (omega arith)
    by (suc a) b f g i rec = absurd (grind arith)

pub least-some : (test : ℕ → Bool) (n r : ℕ) → least test n ≡ suc r → (r < n) × (test r ≡ true)
least-some test zero r e = absurd (omega arith)
least-some test (suc n) r e = by (least test n) (test n) refl refl e (least-some test n r)
  where
    by : (a : ℕ) (b : Bool) → least test n ≡ a → test n ≡ b → cond (a == 0) (cond b (suc n) 0) a ≡ suc r → (least test n ≡ suc r → (r < n) × (test r ≡ true)) → (r < suc n) × (test r ≡ true)
    by zero false f g i rec = absurd (omega arith)
    by zero true f g i rec = let j : n ≡ r = omega arith in (omega arith, subst (λ z. test z ≡ true) j g)
    by (suc a) b f g i rec = let t = rec (f ∙ (let z : suc a ≡ suc r = grind arith in z)) in ((let u = t.0 in omega arith), t.1)

-- the one that passes the test
pub least-is : (test : ℕ → Bool) (n r : ℕ) → r < n → test r ≡ true → ((p : ℕ) → test p ≡ true → p ≡ r) → least test n ≡ suc r
least-is test n r h e one = by (least test n) refl
  where
    by : (a : ℕ) → least test n ≡ a → least test n ≡ suc r
    by zero f = absurd (let z = least-none test n f r h in cc)
    by (suc a) f = f ∙ ap suc (one a (least-some test n a f).1)

-- where nobody passes it
pub least-zero : (test : ℕ → Bool) (n : ℕ) → ((p : ℕ) → test p ≡ true → ⊥) → least test n ≡ 0
least-zero test n no_one = by (least test n) refl
  where
    by : (a : ℕ) → least test n ≡ a → least test n ≡ 0
    by zero f = f
    by (suc a) f = absurd (no_one a (least-some test n a f).1)

pub each-long : (f : ℕ → ℕ) (n : ℕ) → length (each_below f n) ≡ n
each-long f zero = refl
each-long f (suc n) = length_push (each_below f n) (f n) ∙ (let z = each-long f n in omega arith)

read-push : (l : List ℕ) (x q : ℕ) → (q ≡ length l → get_or (l ++ x ∷ []) q 0 ≡ x) × (q ≢ length l → get_or (l ++ x ∷ []) q 0 ≡ get_or l q 0)
read-push [] x zero = ((λ e. refl), (λ n. absurd (n refl)))
read-push [] x (suc q) = ((λ e. absurd (omega arith)), (λ n. refl))
read-push (y ∷ ys) x zero = ((λ e. absurd (omega arith)), (λ n. refl))
read-push (y ∷ ys) x (suc q) = let t = read-push ys x q in ((λ e. t.0 (omega arith)), (λ n. t.1 (λ e. n (ap suc e))))

pub each-read : (f : ℕ → ℕ) (n q : ℕ) → (n ≤ q → f q ≡ 0) → slice_index (each_below f n) q ≡ f q
each-read f zero q h = sym (h (omega arith))
each-read f (suc n) q h = let t = read-push (each_below f n) (f n) q in let l = each-long f n in Chain.by_eq q n
    (λ e. t.0 (omega arith) ∙ ap f (sym e))
    (λ m. t.1 (λ i. m (omega arith)) ∙ each-read f n q (λ i. h (omega arith)))
