-- What the passes of a cell did, as they are given back.
use Rattle.std.proofs.Common.{◌≡◌, ◌≢◌, ℕ, zero, suc, List, [], ◌∷◌, ◌++◌, length, slice_get, Some, sym, refl, ap, ◌∙◌, subst, arith, append_assoc}
use Rattle.shfl_table.specs.declared.view.Part.{Part}
use Rattle.shfl_table.specs.Places.{Every}
use Rattle.shfl_table.specs.ThreadRuns.{AreApart}
use Rattle.rw_cell.specs.RwCells.{RwPassModel, number}
use Rattle.rw_cell.specs.Closings.{part, ArePartsOf}

module _ {E : Type 0} where
  -- of these passes the ones behind `now` were given back, and these are their parts
  abbrev pub AreBack : List (RwPassModel E) → List (RwPassModel E) → List Part → Type 0
  AreBack all now parts = (back : List (RwPassModel E)) × (all ≡ now ++ back) × ArePartsOf back parts

  pub back-first : (all now : List (RwPassModel E)) (p : RwPassModel E) (x : Part) → all ≡ now ++ p ∷ [] → x ≡ part p → AreBack all now (x ∷ [])
  back-first all now p x is e = (p ∷ [], is, (e, tt))

  pub back-more : (all old now : List (RwPassModel E)) (p : RwPassModel E) (x : Part) (parts : List Part) → old ≡ now ++ p ∷ [] → x ≡ part p → AreBack all old parts → AreBack all now (x ∷ parts)
  back-more all old now p x parts is e b = (p ∷ b.0, b.1 ∙ (ap (λ l. l ++ b.0) is ∙ append_assoc now (p ∷ []) b.0), (e, b.2))

  none-before : (now back all : List (RwPassModel E)) → length now ≡ 0 → all ≡ now ++ back → back ≡ all
  none-before [] back all none e = sym e
  none-before (p ∷ ps) back all none e = absurd (omega arith)

  -- each pass stands here once
  abbrev pub AreOnce : List (RwPassModel E) → Type 0
  AreOnce passes = (i j : ℕ) (p q : RwPassModel E) → slice_get passes i ≡ Some p → slice_get passes j ≡ Some q → number p ≡ number q → i ≡ j

  -- what holds of each part holds of that of each pass
  of-part : (P : Part → Type 0) (ps : List (RwPassModel E)) (xs : List Part) (i : ℕ) (p : RwPassModel E) → ArePartsOf ps xs → Every P xs → slice_get ps i ≡ Some p → (x : Part) × P x × (x.number ≡ number p)
  of-part P [] xs i p are each e = absurd (cc)
  of-part P (q ∷ qs) [] i p are each e = absurd are
  of-part P (q ∷ qs) (x ∷ xs) zero p are each e = let same : q ≡ p = cc in (x, each.0, ap (λ (z : Part). z.number) are.0 ∙ ap number same)
  of-part P (q ∷ qs) (x ∷ xs) (suc i) p are each e = of-part P qs xs i p are.1 each.1 e

  -- passes whose parts are of different ones
  pub each-once : (ps : List (RwPassModel E)) (xs : List Part) → ArePartsOf ps xs → AreApart xs → AreOnce ps
  each-once [] xs are apart i j p q e f same = absurd (cc)
  each-once (r ∷ ps) [] are apart i j p q e f same = absurd are
  each-once (r ∷ ps) (x ∷ xs) are apart zero zero p q e f same = refl
  each-once (r ∷ ps) (x ∷ xs) are apart zero (suc j) p q e f same = let first : r ≡ p = cc in let other = of-part (λ (y : Part). y.number ≢ x.number) ps xs j q are.1 apart.0 f in
      absurd (other.1 (other.2 ∙ (sym same ∙ (ap number (sym first) ∙ sym (ap (λ (z : Part). z.number) are.0)))))
  each-once (r ∷ ps) (x ∷ xs) are apart (suc i) zero p q e f same = let first : r ≡ q = cc in let other = of-part (λ (y : Part). y.number ≢ x.number) ps xs i p are.1 apart.0 e in
      absurd (other.1 (other.2 ∙ (same ∙ (ap number (sym first) ∙ sym (ap (λ (z : Part). z.number) are.0)))))
  each-once (r ∷ ps) (x ∷ xs) are apart (suc i) (suc j) p q e f same = ap suc (each-once ps xs are.1 apart.1 i j p q e f same)

  -- once none is left, they are the parts of all
  pub all-told : (all now : List (RwPassModel E)) (parts : List Part) → length now ≡ 0 → AreBack all now parts → ArePartsOf all parts
  all-told all now parts none b = subst (λ (l : List (RwPassModel E)). ArePartsOf l parts) (none-before now b.0 all none b.1) b.2
