-- Passes that stand in the order of their numbers.
use Rattle.std.proofs.Common.{◌≡◌, ℕ, zero, suc, ◌<◌, List, [], ◌∷◌, Any, All, map, length, slice_index_or, sym, refl, ap, ◌∙◌, arith}
use Rattle.std.proofs.lemmas.List.{length-map}
use Rattle.shfl_cell.specs.Cells.{CellPassModel, number, AreInOrder}
use Rattle.call_pool.specs.Pools.{PoolPassModel, AreNumbered}

module _ {C : Type 0} where
  cell-at : (passes : List (PoolPassModel C)) (k : ℕ) (d : CellPassModel) (e : PoolPassModel C) → k < length passes
      → slice_index_or (map (λ p. p.cell) passes) k d ≡ (slice_index_or passes k e).cell
  cell-at [] k d e h = absurd (omega arith)
  cell-at (p ∷ ps) zero d e h = refl
  cell-at (p ∷ ps) (suc k) d e h = cell-at ps k d e (omega arith)

  pub one_of_all : (P : PoolPassModel C → Type 0) (passes : List (PoolPassModel C)) → 0 < length passes → All P passes → Any P passes
  one_of_all P [] some all = absurd (omega arith)
  one_of_all P (p ∷ ps) some all = (0, p, omega arith, refl, all 0 p (omega arith))

  some-pass : (passes : List (PoolPassModel C)) (k : ℕ) → k < length passes → PoolPassModel C
  some-pass [] k h = absurd (omega arith)
  some-pass (p ∷ ps) k h = p

  pub numbered : (passes : List (PoolPassModel C)) → AreInOrder (map (λ p. p.cell) passes) → AreNumbered (λ p. number p.cell) passes
  numbered passes order k d h =
      let within : k < length (map (λ (p : PoolPassModel C). p.cell) passes) = (let l = length-map passes (λ (p : PoolPassModel C). p.cell) in omega arith) in
      sym (ap number (cell-at passes k d.cell d h)) ∙ order k d.cell within

  pub in_order : (passes : List (PoolPassModel C)) → AreNumbered (λ p. number p.cell) passes → AreInOrder (map (λ p. p.cell) passes)
  in_order passes order k d h =
      let within : k < length passes = (let l = length-map passes (λ (p : PoolPassModel C). p.cell) in omega arith) in
      let e = some-pass passes k within in
      ap number (cell-at passes k d e within) ∙ order k e within
