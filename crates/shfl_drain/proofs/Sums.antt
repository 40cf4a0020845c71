-- Sums over passes, and a number made of two of which the first counts more.
use Rattle.std.proofs.Common.{◌≡◌, ℕ, zero, suc, ◌+◌, ◌*◌, ◌<◌, ◌≤◌, ap, subst, arith}
use Rattle.std.proofs.lemmas.Nat.{mul-le}
use Rattle.shfl_core.specs.Holding.{total}
use Rattle.shfl_line.proofs.Chain

pub total-le : (n : ℕ) (f g : ℕ → ℕ) → ((q : ℕ) → f q ≤ g q) → total n f ≤ total n g
total-le zero f g h = omega arith
total-le (suc n) f g h = let a = h n in let b = total-le n f g h in omega arith

pub total-lt : (n p : ℕ) (f g : ℕ → ℕ) → ((q : ℕ) → f q ≤ g q) → p < n → f p < g p → total n f < total n g
total-lt zero p f g h b l = absurd (omega arith)
total-lt (suc n) p f g h b l = Chain.by_eq p n
    (λ e. let c : f n < g n = subst (λ z. f z < g z) e l in let d = total-le n f g h in omega arith)
    (λ m. let c = h n in let d = total-lt n p f g h (omega arith) l in omega arith)

pub total-most : (n k : ℕ) (f : ℕ → ℕ) → ((q : ℕ) → f q ≤ k) → total n f ≤ n * k
total-most zero k f h = omega arith
total-most (suc n) k f h = let a = h n in let b = total-most n k f h in grind (arith, a, b)

pub total-part : (n p : ℕ) (f : ℕ → ℕ) → p < n → f p ≤ total n f
total-part zero p f h = absurd (omega arith)
total-part (suc n) p f h = Chain.by_eq p n
    (λ e. let c : f p ≡ f n = ap f e in omega arith)
    (λ m. let d = total-part n p f (omega arith) in omega arith)

-- where the first of two counts more than all of the second
pub less : (a b c d m : ℕ) → c < a → d ≤ m → c * (m + 1) + d < a * (m + 1) + b
less a b c d m h k = let e : (c + 1) * (m + 1) ≤ a * (m + 1) = mul-le (c + 1) (m + 1) a (m + 1) (omega arith) (omega arith) in
    let f : (c + 1) * (m + 1) ≡ c * (m + 1) + (m + 1) = grind arith in omega arith

pub no-more : (a b c d m : ℕ) → c ≤ a → d ≤ b → c * (m + 1) + d ≤ a * (m + 1) + b
no-more a b c d m h k = let e : c * (m + 1) ≤ a * (m + 1) = mul-le c (m + 1) a (m + 1) h (omega arith) in omega arith

pub second-less : (a b c d m : ℕ) → c ≤ a → d < b → c * (m + 1) + d < a * (m + 1) + b
second-less a b c d m h k = let e : c * (m + 1) ≤ a * (m + 1) = mul-le c (m + 1) a (m + 1) h (omega arith) in omega arith
