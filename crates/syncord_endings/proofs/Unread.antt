-- A source that wasn't read was read at most so often.
use Rattle.std.proofs.Common.{◌≡◌, ◌≤◌, ◌+◌, ℕ, Option, Some, None, refl, arith}
use Rattle.syn_outer.specs.Causes.{CallsAtMost}

pub calls_stay : (most : ℕ) (calls : Option ℕ) → CallsAtMost most calls calls
calls_stay most None = tt
calls_stay most (Some n) = (n, refl, omega arith)
