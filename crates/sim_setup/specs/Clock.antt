-- Sums of times and of counts.
use Rattle.std.specs.Prelude.{ℕ, ◌+◌, ◌-◌, ◌*◌, ◌^◌, Bool, cond, nat_lt, min}

-- a sum, which stops at the largest number of 64 bits
unfoldable pub plus : ℕ → ℕ → ℕ
plus a b = min (a + b) (2 ^ 64 - 1)

-- a product, which stops there
unfoldable pub times : ℕ → ℕ → ℕ
times a b = min (a * b) (2 ^ 64 - 1)

-- the later of two times
unfoldable pub later : ℕ → ℕ → ℕ
later a b = cond (nat_lt a b) b a

-- one more where the test holds
abbrev pub plus_if : ℕ → Bool → ℕ
plus_if n test = cond test (plus n 1) n
