use Rattle.std.proofs.Common.{rules, arith, ◌≡◌, ℕ, ◌≤◌, ◌+◌, sum, sym, refl, ap, ◌∙◌, subst, List, [], ◌∷◌, ◌++◌, All, IfSome, vec_len, vec_capacity}
use Rattle.std.proofs.lemmas.List.Elements.{All-pop}
use Rattle.shfl_table.specs.Places.{Every}
use Rattle.shfl_table.specs.Books.{BookModel, pack}
use Rattle.rw_cell.specs.RwCells.{first_state}
use Rattle.rw_cell.proofs.Copies.{every-snoc}
use Rattle.rw_cell.proofs.opening.books_of.Goals as goal

pub new-requires-clause-spare : goal.new-requires-clause-spare
new-requires-clause-spare g c = let O = g.O.Object in let calls = c.args.calls.now in let i = c.loop-object.invariant in
    let P : g.row.O.Denot → Type 0 = λ x. sum calls ≤ O.spare x in
    let here = subst (λ o. IfSome o P) c.in-Some.is (All-pop P c.loop-object.copies.items c.pop.new.self.items c.pop.result c.pop.ensures.items i.3).1 in
    let items : c.in_ok-allowed.allowed.items ≡ calls = search rules in
    let same : sum c.in_ok-allowed.allowed.items ≡ sum calls = ap sum items in
    omega arith

pub loop-object-preserved : goal.loop-object-preserved
loop-object-preserved g c = let O = g.O.Object in let i = c.loop-object.invariant in let calls = c.args.calls.now in let s = first_state O.state_numbers c.args.copies.items in
    let P : g.row.O.Denot → Type 0 = λ x. O.state_numbers x ≡ s in
    let Q : g.row.O.Denot → Type 0 = λ x. sum calls ≤ O.spare x in
    let states = All-pop P c.loop-object.copies.items c.pop.new.self.items c.pop.result c.pop.ensures.items i.2 in
    let spares = All-pop Q c.loop-object.copies.items c.pop.new.self.items c.pop.result c.pop.ensures.items i.3 in
    let here : O.state_numbers c.in-Some.object ≡ s = subst (λ o. IfSome o P) c.in-Some.is states.1 in
    let same : c.in_ok-allowed.allowed.items ≡ calls = search rules in
    let R : BookModel → Type 0 = λ b. (pack b.opening b.allowed ≡ pack s calls) × (b.history ≡ []) in
    let new : R c.new.result = subst R (sym c.new.ensures) ((λ j. pack (here j) (same j)), refl) in (
      search rules,
      search rules,
      states.0,
      spares.0,
      subst (Every R) (sym c.push_reserved.ensures.items) (every-snoc R c.loop-object.books.items c.new.result i.4 new),
    )
