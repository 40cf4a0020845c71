use Rattle.std.proofs.Common.{◌≡◌, ◌∷◌, [], refl, ap, ◌∙◌, sym, List, Option, Some, length, map, arith}
use Rattle.table_tests.specs.declared.crowd.Tally.{Tally}
use Rattle.shfl_table.specs.PassModel.{PassModel}
use Rattle.table_tests.proofs.threads.stay.Goals as goal

only : {X : Type 0} (xs : List X) (vs : List (Option X)) → vs ≡ map Some xs → length vs ≡ 1 → (x : X) × (vs ≡ Some x ∷ [])
only [] vs e l = absurd (let n : 0 ≡ 1 = sym (ap length e) ∙ l in omega arith)
only (x ∷ []) vs e l = (x, e)
only (x ∷ y ∷ ys) vs e l = absurd (let n : length (map Some (x ∷ y ∷ ys)) ≡ 1 = sym (ap length e) ∙ l in omega arith)

pub mark-was_empty-requires-clause-value : goal.mark-was_empty-requires-clause-value
mark-was_empty-requires-clause-value c = only c.requires.within.0 c.args.pass.now.values c.requires.within.1 (c.requires.one c.in-Write.is)

pub returns-after-was_empty-clause-within : goal.returns-after-was_empty-clause-within
returns-after-was_empty-clause-within c = (c.mark-was_mine.ensures.0 ∷ [], ap (λ (p : PassModel Tally). p.values) c.mark-was_mine.ensures.1, (refl, tt))
