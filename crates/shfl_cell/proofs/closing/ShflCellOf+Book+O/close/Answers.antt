use Rattle.std.proofs.Common.{rules, arith, ◌≡◌, ℕ, ◌<◌, ◌≤◌, ◌+◌, sym, refl, ap, ◌∙◌, subst, List, [], ◌∷◌, ◌++◌, map, length, All, Option, Some, None, append-nil, append_assoc, length-append, option_to_list, IfSome, vec_len}
use Rattle.std.proofs.lemmas.List.{map-append}
use Rattle.std.proofs.lemmas.List.Elements.{All-pop}
use Rattle.hist_log.specs.History.{operations, state_left, IsLegal}
use Rattle.shfl_table.specs.declared.kept.Action.{Action}
use Rattle.shfl_table.specs.declared.view.Given.{Given}
use Rattle.shfl_table.specs.ThreadRuns.{RanUntilClosed}
use Rattle.shfl_table.specs.Views.{IsAmong}
use Rattle.shfl_table.specs.Histories.{HasSeen, actions_by, IsCurrent}
use Rattle.shfl_table.specs.Places.{Every}
use Rattle.shfl_table.specs.PassModel.{ClosingModel, BoardModel}
use Rattle.shfl_table.specs.Books.{BookModel, opening_of, pack, actions}
use Rattle.shfl_cell.specs.Cells.{CellModel, CellPassModel, given, cell_on, ArePartsOf}
use Rattle.shfl_table.proofs.PackedStates.{opening_of-pack}
use Rattle.shfl_cell.proofs.EachPass.{given-of, seen-of}
use Rattle.shfl_cell.proofs.closing.ShflCellOf+Book+O.close.Given as given_here
use Rattle.shfl_cell.proofs.closing.ShflCellOf+Book+O.close.Goals as goal
use Rattle.shfl_cell.proofs.closing.ShflCellOf+Book+O.close.Goals.{In_default-pop, After-into_parts}

none_left : {A B : Type 0} (f : A → B) (xs : List A) (ys : List B) → length xs ≡ 0 → map f xs ++ ys ≡ ys
none_left f [] ys h = refl
none_left f (x ∷ xs) ys h = absurd (omega arith)

given_more : {A B : Type 0} (f : A → B) (old new : List A) (x : A) (b : B) (more : List B) → old ≡ new ++ x ∷ [] → f x ≡ b → map f old ++ more ≡ map f new ++ (b ∷ more)
given_more f old new x b more is same = ap (λ l. map f l ++ more) is ∙ (ap (λ l. l ++ more) (map-append f new (x ∷ [])) ∙ (append_assoc (map f new) (f x ∷ []) more ∙ ap (λ c. map f new ++ (c ∷ more)) same))

pub loop-pass-init : goal.loop-pass-init
loop-pass-init g c = let P : CellPassModel → Type 0 = λ p. p.cell ≡ c.args.self.id in
    let popped = All-pop P c.args.passes.items c.pop.new.self.items c.pop.result c.pop.ensures.items c.requires.cell in
    let e = c.board_pass.ensures in let n = c.new-closing.ensures in let m = c.self.view_is in
    let items : c.args.passes.items ≡ c.pop.new.self.items ++ c.in-Some.first ∷ [] = c.pop.ensures.items ∙ ap (λ o. c.pop.new.self.items ++ option_to_list o) c.in-Some.is in (
      ap (λ (z : ClosingModel). cell_on z.board) n ∙ m,
      ap (λ (z : ClosingModel). z.board.id.table.slots) n ∙ c.self.invariant.0,
      popped.0,
      sym (append-nil (map given c.args.passes.items)) ∙ (given_more given c.args.passes.items c.pop.new.self.items c.in-Some.first _ [] items (sym e.given) ∙ ap (λ (z : ClosingModel). map given c.pop.new.self.items ++ z.back) (sym n)),
      (c.in-Some.first ∷ [], items, subst (λ (z : ClosingModel). ArePartsOf (c.in-Some.first ∷ []) z.parts) (sym n) (e.part, tt)),
    )

pub give-requires-clause-board : goal.give-requires-clause-board
give-requires-clause-board g c = let P : CellPassModel → Type 0 = λ p. p.cell ≡ c.args.self.id in let i = c.loop-pass.invariant in
    let popped = All-pop P c.loop-pass.passes.items c.pop-in-loop-pass.new.self.items c.pop-in-loop-pass.result c.pop-in-loop-pass.ensures.items i.2 in
    let here = subst (λ o. IfSome o P) c.in-Some-pop.is popped.1 in c.board_pass-in-Some-pop.ensures.board ∙ (here ∙ ap (λ (z : CellModel). z.id) (sym i.0))

pub loop-pass-preserved : goal.loop-pass-preserved
loop-pass-preserved g c = let P : CellPassModel → Type 0 = λ p. p.cell ≡ c.args.self.id in let i = c.loop-pass.invariant in let old = c.loop-pass.passes.items in let new = c.pop-in-loop-pass.new.self.items in
    let popped = All-pop P old new c.pop-in-loop-pass.result c.pop-in-loop-pass.ensures.items i.2 in
    let items : old ≡ new ++ c.in-Some-pop.pass ∷ [] = c.pop-in-loop-pass.ensures.items ∙ ap (λ o. new ++ option_to_list o) c.in-Some-pop.is in
    let e = c.board_pass-in-Some-pop.ensures in let n = c.give.ensures in (
      ap (λ (z : ClosingModel). cell_on z.board) n ∙ i.0,
      ap (λ (z : ClosingModel). z.board.id.table.slots) n ∙ i.1,
      popped.0,
      i.3 ∙ (given_more given old new c.in-Some-pop.pass _ c.loop-pass.closing.back items (sym e.given) ∙ ap (λ (z : ClosingModel). map given new ++ z.back) (sym n)),
      (c.in-Some-pop.pass ∷ i.4.0, i.4.1 ∙ (ap (λ l. l ++ i.4.0) items ∙ append_assoc new (c.in-Some-pop.pass ∷ []) i.4.0), subst (λ (z : ClosingModel). ArePartsOf (c.in-Some-pop.pass ∷ i.4.0) z.parts) (sym n) (e.part, i.4.2)),
    )

module _ (g : given_here.Over) (c : In_default-pop g) where
  all_back : map given c.args.passes.items ≡ c.loop-pass.closing.back
  all_back = let i = c.loop-pass.invariant in let n = c.in_default-pop.ensures.cases.0 in let ok = c.loop-pass.passes.ok.0 in i.3 ∙ none_left given c.loop-pass.passes.items c.loop-pass.closing.back (omega arith)

pub finish-values-requires : goal.finish-values-requires
finish-values-requires g c = let i = c.loop-pass.invariant in let b = all_back g (goal.at.finish-values-requires g c).In_default-pop in record {
  all = λ k h. let a = given-of c.args.passes.items k (c.requires.all k (subst (λ (z : CellModel). k < z.count) i.0 h)) in (a.0, subst (IsAmong a.0) b a.1, a.2);
}

-- the passes that are given back are all
none_left-of : {A : Type 0} (xs ys all : List A) → length xs ≡ 0 → all ≡ xs ++ ys → ys ≡ all
none_left-of [] ys all h e = sym e
none_left-of (x ∷ xs) ys all h e = absurd (omega arith)

no-given : (l : List CellPassModel) (h : Given) → length l ≡ 0 → IsAmong h (map given l) → ⊥
no-given [] h n has = has
no-given (x ∷ xs) h n has = absurd (omega arith)

one-of : {X : Type 0} (P : X → Type 0) (l m : List X) (x : X) → Every P l → l ≡ m ++ x ∷ [] → length l ≡ 1 → P x
one-of P [] m x e is n = absurd (omega arith)
one-of P (y ∷ []) [] x e is n = let same : y ≡ x = cc in subst P same e.0
one-of P (y ∷ []) (z ∷ zs) x e is n = absurd (let a = ap length is in let b = length-append zs (x ∷ []) in omega arith)
one-of P (y ∷ z ∷ zs) m x e is n = absurd (omega arith)

pub unreachable-requires : goal.unreachable-requires
unreachable-requires g c = let some = subst (λ (z : CellModel). 0 < z.count) c.self.view_is c.self.invariant.1 in let a = given-of c.args.passes.items 0 (c.requires.all 0 some) in let n = c.in_default.ensures.cases.0 in let ok = c.args.passes.ok.0 in
    no-given c.args.passes.items a.0 (omega arith) a.1

pub new-closing-requires-clause-board : goal.new-closing-requires-clause-board
new-closing-requires-clause-board g c = let P : CellPassModel → Type 0 = λ p. p.cell ≡ c.args.self.id in
    let popped = All-pop P c.args.passes.items c.pop.new.self.items c.pop.result c.pop.ensures.items c.requires.cell in
    let first = subst (λ o. IfSome o P) c.in-Some.is popped.1 in c.board_pass.ensures.board ∙ (first ∙ ap (λ (z : CellModel). z.id) (sym c.self.view_is))

-- the one value that the lock gave back, with the history that all its values have
module _ (g : given_here.Over) (c : After-into_parts g) (total : List Action) (alike : Every (IsCurrent (λ (x : BookModel). pack x.opening x.allowed) (λ (x : BookModel). x.history) c.loop-pass.closing.board.initial_state total) c.finish-values.result.items) where
  last : IsCurrent (λ (x : BookModel). pack x.opening x.allowed) (λ (x : BookModel). x.history) c.loop-pass.closing.board.initial_state total c.in-Some-pop-2.book
  last = let one : length c.finish-values.result.items ≡ 1 = (let l = c.finish-values.ensures.len in let s = c.loop-pass.invariant.1 in let ok = c.finish-values.result.ok.0 in omega arith) in
      one-of (IsCurrent (λ (x : BookModel). pack x.opening x.allowed) (λ (x : BookModel). x.history) c.loop-pass.closing.board.initial_state total) c.finish-values.result.items c.pop-2.new.self.items c.in-Some-pop-2.book alike c.in-Some-pop-2.ensures.items one

  opening : c.in-Some-pop-2.book.opening ≡ c.args.self.opening
  opening = sym (opening_of-pack c.in-Some-pop-2.book.opening c.in-Some-pop-2.book.allowed) ∙ (ap opening_of last.0 ∙ ap (λ (z : CellModel). z.opening) c.loop-pass.invariant.0)

  whole : actions g.O.Object.call_numbers g.O.Object.reply_numbers c.into_parts.result.1.items ≡ total
  whole = c.into_parts.ensures.history ∙ last.1

pub returns-clause-legal : goal.returns-clause-legal
returns-clause-legal g c = let d = (goal.at.returns-clause-legal g c).After-into_parts in let O = g.O.Object in let v = c.finish-values.ensures.values in
    subst (λ (s : List ℕ). IsLegal O.reply_at O.state_after s (operations O.call_numbers O.reply_numbers c.into_parts.result.1.items)) (opening g d v.0 v.1) c.into_parts.ensures.legal

pub returns-clause-state : goal.returns-clause-state
returns-clause-state g c = let d = (goal.at.returns-clause-state g c).After-into_parts in let O = g.O.Object in let v = c.finish-values.ensures.values in
    c.into_parts.ensures.state ∙ ap (λ (s : List ℕ). state_left O.state_after s (operations O.call_numbers O.reply_numbers c.into_parts.result.1.items)) (opening g d v.0 v.1)

pub returns-clause-seen : goal.returns-clause-seen
returns-clause-seen g c = let d = (goal.at.returns-clause-seen g c).After-into_parts in let O = g.O.Object in let v = c.finish-values.ensures.values in
    let back = all_back g (goal.at.returns-clause-seen g c).In_default-pop in
    seen-of (actions O.call_numbers O.reply_numbers c.into_parts.result.1.items) c.args.passes.items
    (λ h has. subst (λ (t : List Action). HasSeen t h.number h.history) (sym (whole g d v.0 v.1)) (v.2 h (subst (IsAmong h) back has)))

pub returns-clause-nobody_else : goal.returns-clause-nobody_else
returns-clause-nobody_else g c = let d = (goal.at.returns-clause-nobody_else g c).After-into_parts in let v = c.finish-values.ensures.values in
    λ k h. ap (actions_by k) (whole g d v.0 v.1) ∙ v.3 k (subst (λ (z : CellModel). z.count ≤ k) (sym c.loop-pass.invariant.0) h)

pub returns-clause-run : goal.returns-clause-run
returns-clause-run g c = let d = (goal.at.returns-clause-run g c).After-into_parts in let r = c.finish-values.ensures.run in let i = c.loop-pass.invariant in let n = c.in_default-pop.ensures.cases.0 in let ok = c.loop-pass.passes.ok.0 in
    let all : i.4.0 ≡ c.args.passes.items = none_left-of c.loop-pass.passes.items i.4.0 c.args.passes.items (omega arith) i.4.1 in record {
      parts = c.loop-pass.closing.parts;
      told = subst (λ (l : List CellPassModel). ArePartsOf l c.loop-pass.closing.parts) all i.4.2;
      run = subst (λ (z : CellModel × List Action). RanUntilClosed z.0.id.rules z.0.id.attrs z.0.count c.loop-pass.closing.parts z.1) (λ j. (i.0 j, sym (whole g d r.0 r.1) j)) r.2;
    }
