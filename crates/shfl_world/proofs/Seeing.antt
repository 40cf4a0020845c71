-- A pass that doesn't pass a test is not found by it.
use Rattle.std.proofs.Common.{◌≡◌, ℕ, false, arith}
use Rattle.std.proofs.lemmas.Bool.Decides.{nat_tests}
use Rattle.shfl_world.specs.Showing.{first_found}

pub not_found : (found p : ℕ) → first_found found false p ≡ found
not_found found p = grind (arith, nat_tests)
