-- All passes of a pool: the one with a number, and the parts that they have together.
use Rattle.std.proofs.Common.{◌≡◌, ℕ, ◌+◌, ◌<◌, ◌≤◌, List, [], ◌∷◌, map, length, Contains, sym, refl, ap, subst, arith}
use Rattle.std.specs.List.{All, sum_by}
use Rattle.std.proofs.lemmas.List.Elements.{All-weaker, All-contains}
use Rattle.call_queue.specs.Rule.{whole}
use Rattle.shfl_cell.specs.Cells.{number, AreAll}
use Rattle.call_pool.specs.Pools.{PoolModel, PoolPassModel, IsPassOf}
use Rattle.call_pool.proofs.Members.{member_with, sum_at_least}

module _ {C : Type 0} where
  same_numbers : (passes : List (PoolPassModel C)) → map number (map (λ p. p.cell) passes) ≡ map (λ p. number p.cell) passes
  same_numbers [] = refl
  same_numbers (p ∷ ps) = ap (λ l. number p.cell ∷ l) (same_numbers ps)

  pub pass_with : (count : ℕ) (passes : List (PoolPassModel C)) → AreAll count (map (λ p. p.cell) passes) → (k : ℕ) → k < count → (p : PoolPassModel C) × Contains passes p × (number p.cell ≡ k)
  pass_with count passes all k below = let has = subst (λ l. Contains l k) (same_numbers passes) (all k below) in member_with (λ p. number p.cell) passes k has.0 k has.1 has.2

  pub every_part : (call_numbers : C → List ℕ) (admits : List ℕ → List ℕ → Type 0) (pool : PoolModel C) (passes : List (PoolPassModel C)) → All (IsPassOf call_numbers admits pool) passes
      → AreAll pool.cell.count (map (λ p. p.cell) passes) → length passes ≡ pool.cell.count → 0 < pool.cell.count → pool.queue.takers ≡ pool.cell.count → whole ≤ sum_by (λ p. p.taker.parts) passes
  every_part call_numbers admits pool passes own all count some takers =
      let first = pass_with pool.cell.count passes all 0 some in
      let rest : 1024 < first.0.taker.parts + pool.queue.takers = (All-contains (IsPassOf call_numbers admits pool) passes first.0 own first.1).rest first.2 in
      let sum = sum_at_least (λ (p : PoolPassModel C). p.taker.parts) passes first.0 (All-weaker (IsPassOf call_numbers admits pool) (λ p. 0 < p.taker.parts) (λ p o. o.part) passes own) first.1 in
      let z : 1024 ≤ sum_by (λ (p : PoolPassModel C). p.taker.parts) passes = omega arith in z
