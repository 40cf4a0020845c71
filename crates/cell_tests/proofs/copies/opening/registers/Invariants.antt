use Rattle.std.proofs.Common.{◌≡◌, ◌≤◌, All, vec_len, vec_capacity}
use Rattle.cell_tests.proofs.copies.opening.registers.Given as goal

abbrev pub invariant-loop-k : goal.invariant-loop-k
invariant-loop-k l = (vec_len l.all ≡ l.k) × (l.count ≤ vec_capacity l.all) × All (λ x. x ≡ record { value = 0; spare = l.spare }) l.all.items
