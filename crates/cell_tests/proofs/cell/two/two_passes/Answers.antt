use Rattle.std.proofs.Common.{◌≡◌, ◌<◌, ℕ, zero, suc, List, [], ◌∷◌, length, slice_get, slice_index_or, Some, Ok, Err, Result, IfOk, sym, ◌∙◌, subst, arith}
use Rattle.std.specs.Prelude.{slice_index}
use Rattle.std.specs.List.{All}
use Rattle.std.proofs.lemmas.Option.{get_or_from_slice_get}
use Rattle.shfl_cell.specs.Cells.{CellModel, CellPassModel, fresh}
use Rattle.cell_tests.proofs.cell.two.two_passes.Goals as goal

if-ok : {R E : Type 0} (A B C P : R → Type 0) (r : Result R E) → ((x : R) → A x → B x → C x → P x) → IfOk r A → IfOk r B → IfOk r C → IfOk r P
if-ok A B C P (Ok x) f a b c = f x a b c
if-ok A B C P (Err e) f a b c = tt

two : (k : ℕ) → k < 2 → 1 < slice_index (2 ∷ 2 ∷ []) k
two zero h = omega arith
two (suc zero) h = omega arith
two (suc (suc k)) h = absurd (omega arith)

each-left : (xs : List CellPassModel) (cell : CellModel) (f : ℕ → CellPassModel) → length xs ≡ 2 → All (λ p. p.cell ≡ cell.id) xs
    → ((k : ℕ) → k < 2 → slice_get xs k ≡ Some (f k)) → ((k : ℕ) → k < 2 → 1 < (f k).left) → All (λ p. (p.cell ≡ cell.id) × (1 < p.left)) xs
each-left xs cell f long own is left k d below = let small : k < 2 = omega arith in
    (own k d below, subst (λ (p : CellPassModel). 1 < p.left) (sym (get_or_from_slice_get xs k (f k) d (is k small))) (left k small))

pub returns : goal.returns
returns c = if-ok _ _ _ _ c.open.result
    (λ r own count passes. let ok = r.1.ok.0 in each-left r.1.items r.0 (λ k. fresh r.0 k (slice_index (2 ∷ 2 ∷ []) k) _) (omega arith) own passes two)
    c.open.ensures.own c.open.ensures.count c.open.ensures.passes
