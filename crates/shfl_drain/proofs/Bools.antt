-- What tests say, and a search below a number.
use Rattle.std.proofs.Common.{◌≡◌, ℕ, zero, suc, ◌<◌, ◌⊎◌, Bool, true, false, refl, sym, inl, inr, subst, ⊎_elim, ap, arith}
use Rattle.std.specs.Prelude.{◌&&◌, not, Option, None, cond, ◌==◌}
use Rattle.std.proofs.lemmas.Bool.Decides.{nat_tests}
use Rattle.shfl_line.specs.Words.{link_word}
use Rattle.shfl_core.specs.Holding.{total}
use Rattle.shfl_line.proofs.Chain

pub true-or : (b : Bool) → (b ≡ true) ⊎ (b ≡ false)
true-or true = inl refl
true-or false = inr refl

pub not-true : (b : Bool) → (b ≡ true → ⊥) → b ≡ false
not-true true h = absurd (h refl)
not-true false h = refl

pub true-not-false : (b : Bool) → b ≡ true → b ≡ false → ⊥
true-not-false true e f = cc
true-not-false false e f = cc

pub both : (a b : Bool) → (a && b) ≡ true → (a ≡ true) × (b ≡ true)
both true b e = (refl, e)
both false b e = absurd (cc)

pub not-both : (a b : Bool) → a ≡ true → (a && not b) ≡ false → b ≡ true
not-both a true e f = refl
not-both true false e f = absurd (cc)
not-both false false e f = absurd (cc)

pub and-both : (a b : Bool) → a ≡ true → b ≡ true → (a && b) ≡ true
and-both true b e f = f
and-both false b e f = absurd (cc)

pub not-is : (b : Bool) → not b ≡ true → b ≡ false
not-is true e = absurd (cc)
not-is false e = refl

pub is-not : (b : Bool) → b ≡ false → not b ≡ true
is-not true e = absurd (cc)
is-not false e = refl

-- some number below n passes the test, or none does
pub search-below : (f : ℕ → Bool) (n : ℕ) → ((p : ℕ) × (p < n) × (f p ≡ true)) ⊎ ((p : ℕ) → p < n → f p ≡ false)
search-below f zero = inr (λ p h. absurd (omega arith))
search-below f (suc n) = ⊎_elim
    (λ e. inl (n, omega arith, e))
    (λ e. ⊎_elim
    (λ t. inl (t.0, (let u = t.1 in omega arith), t.2))
    (λ g. inr (λ p h. Chain.by_eq p n (λ i. subst (λ z. f z ≡ false) (sym i) e) (λ d. g p (omega arith))))
    (search-below f n))
    (true-or (f n))

-- a sum of nothings
pub total-none : (n : ℕ) (f : ℕ → ℕ) → ((q : ℕ) → f q ≡ 0) → total n f ≡ 0
total-none zero f h = refl
total-none (suc n) f h = let a = h n in let b = total-none n f h in omega arith

-- of a sum that is more than nothing some part is
pub some-total : (n : ℕ) (f : ℕ → ℕ) → 0 < total n f → (q : ℕ) × (0 < f q)
some-total zero f h = absurd (omega arith)
some-total (suc n) f h = by (f n) refl (some-total n f)
  where
    by : (k : ℕ) → f n ≡ k → (0 < total n f → (q : ℕ) × (0 < f q)) → (q : ℕ) × (0 < f q)
    by zero e rec = rec (omega arith)
    by (suc k) e rec = (n, omega arith)

-- where nobody is detached, no pass is
pub nobody-detached : (h : Option ℕ) (q : ℕ) → h ≡ None → ◌≡◌ {A = ℕ} (cond (link_word h == suc q) 1 0) 0
nobody-detached h q e = let z : link_word h ≡ 0 = ap link_word e in grind (arith, nat_tests, z)
