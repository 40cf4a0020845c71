use Rattle.std.proofs.Common.{rules, arith, ◌≡◌, ◌<◌, ◌≤◌, ℕ, Vec, Global, vec_len, sym, refl, ap, ◌∙◌, subst, List, [], ◌∷◌, ◌++◌, map, length, get_or, slice_get, All, Option, Some, None, append-nil, option_to_list, IfSome}
use Rattle.std.proofs.lemmas.List.{length-map}
use Rattle.std.proofs.lemmas.List.Elements.{All-pop}
use Rattle.hist_log.specs.declared.entry.Entry.{Entry}
use Rattle.hist_log.specs.History.{Operation, IsLegal, operations, state_left}
use Rattle.hist_log.specs.Merge.{merged}
use Rattle.shfl_table.specs.declared.kept.Action.{Action}
use Rattle.shfl_table.specs.declared.view.Given.{Given}
use Rattle.shfl_table.specs.Histories.{actions_by, HasSeen, StartsWith}
use Rattle.shfl_table.specs.PassModel.{ClosingModel, BoardModel, BoardId}
use Rattle.shfl_table.specs.Places.{Every}
use Rattle.shfl_table.specs.ThreadRuns.{RanUntilClosed}
use Rattle.shfl_table.specs.Views.{IsAmong}
use Rattle.shfl_table.specs.Books.{BookModel, actions, opening_of, operations_of, pack}
use Rattle.shfl_table.proofs.Entries.{operations_of-actions}
use Rattle.rw_cell.specs.CallOrder.{calls_of}
use Rattle.rw_cell.specs.RwCells.{RwCellModel, RwPassModel, cell_on, given, number, IsPassOf}
use Rattle.rw_cell.proofs.GivenCopies.{operations-total}
use Rattle.rw_cell.proofs.CallOrder.{calls_in_order, none-between}
use Rattle.rw_cell.proofs.GivenReads.{EachKept, Keeps, in_order_all, within_all, fit_all, own_all}
use Rattle.rw_cell.proofs.PassParts.{AreBack, AreOnce, back-first, back-more, all-told, each-once}
use Rattle.rw_cell.proofs.SortedReads.{Sorted, IsListOf, sorted-start, sorted-at, given-more, none-left, pass-of, given-of, seen-at, seen-of, none-given, mapped-at, all-at, some-at, got-inside}
use Rattle.rw_cell.proofs.closing.RwCellOf+Book+O+Entry+O+O.close.Given as given_here
use Rattle.rw_cell.proofs.closing.RwCellOf+Book+O+Entry+O+O.close.Goals as goal
use Rattle.rw_cell.proofs.closing.RwCellOf+Book+O+Entry+O+O.close.Goals.{In_default-pop, After-parts_of-copies}

module _ (g : given_here.Over) where
  abbrev E : Type 0
  E = Entry g.row.O.Denot g.row.O-Call.Denot g.row.O-Reply.Denot

  abbrev R : RwPassModel E → Vec E Global → Type 0
  R = IsListOf g.O.Object.call_numbers g.O.Object.reply_numbers g.O.Object.reads g.O.Object.reply_at g.O.Object.state_after

  small-for : (n : ℕ) (l : Vec (Vec E Global) Global) → n < vec_len l → n < length l.items
  small-for n l h = let ok = l.ok.0 in omega arith

pub unreachable-requires : goal.unreachable-requires
unreachable-requires g c = let n = c.in_default.ensures.cases.0 in let ok = c.args.passes.ok.0 in
    let some : 0 < c.args.self.count = subst (λ (z : RwCellModel). 0 < z.count) c.self.view_is c.self.invariant.2 in
    none-given c.args.passes.items 0 (omega arith) (c.requires.all 0 some)

pub new-closing-requires-clause-board : goal.new-closing-requires-clause-board
new-closing-requires-clause-board g c = let P : RwPassModel (E g) → Type 0 = IsPassOf c.args.self in
    let popped = All-pop P c.args.passes.items c.pop.new.self.items c.pop.result c.pop.ensures.items c.requires.cell in
    let first = subst (λ o. IfSome o P) c.in-Some.is popped.1 in c.parted-pass.ensures.board ∙ (first.0 ∙ sym (ap (λ (z : RwCellModel). z.id) c.self.view_is))

pub index_mut-requires : goal.index_mut-requires
index_mut-requires g c = let P : RwPassModel (E g) → Type 0 = IsPassOf c.args.self in
    let popped = All-pop P c.args.passes.items c.pop.new.self.items c.pop.result c.pop.ensures.items c.requires.cell in
    let first = subst (λ o. IfSome o P) c.in-Some.is popped.1 in let r = c.parted-pass.ensures.number in
    let near = subst (λ (z : BoardId). c.in-Some.first.reg.me < z.table.slots) (first.0 ∙ sym (ap (λ (z : RwCellModel). z.id) c.self.view_is)) r.1 in
    let number_is = r.0 in let slots = c.self.invariant.1 in let sized = c.self.invariant.6 in omega arith

pub loop-next-init : goal.loop-next-init
loop-next-init g c = let P : RwPassModel (E g) → Type 0 = IsPassOf c.args.self in let m = c.self.view_is in
    let popped = All-pop P c.args.passes.items c.pop.new.self.items c.pop.result c.pop.ensures.items c.requires.cell in
    let first = subst (λ o. IfSome o P) c.in-Some.is popped.1 in let e = c.parted-pass.ensures in let n = c.new-closing.ensures in
    let items : c.args.passes.items ≡ c.pop.new.self.items ++ c.in-Some.first ∷ [] = c.pop.ensures.items ∙ ap (λ o. c.pop.new.self.items ++ option_to_list o) c.in-Some.is in
    let near = subst (λ (z : BoardId). c.in-Some.first.reg.me < z.table.slots) (first.0 ∙ sym (ap (λ (z : RwCellModel). z.id) m)) e.number.1 in
    let slots = c.self.invariant.1 in let sized = c.self.invariant.6 in
    let small = small-for g c.in-Some.first.reg.me c.self.inside.lists (omega arith) in (
      ap (λ (z : ClosingModel). cell_on z.board) n ∙ m,
      ap (λ (z : ClosingModel). z.board.id.table.slots) n ∙ (c.self.invariant.1 ∙ ap (λ (z : RwCellModel). z.count) m),
      popped.0,
      sym (append-nil (map given c.args.passes.items)) ∙ (given-more given c.args.passes.items c.pop.new.self.items c.in-Some.first _ [] items (sym e.given) ∙ ap (λ (z : ClosingModel). map given c.pop.new.self.items ++ z.back) (sym n)),
      (let a = ap (λ (z : RwCellModel). z.count) m in search rules),
      λ once. sorted-at number (R g) c.args.passes.items c.args.passes.items c.pop.new.self.items c.in-Some.first c.self.inside.lists.items c.parted-pass.result.2 c.parted-pass.result.1 e.number.0 once items
          small (e.reads, e.keeps) (sorted-start number (R g) c.args.passes.items c.self.inside.lists.items),
      subst (λ (z : ClosingModel). AreBack c.args.passes.items c.pop.new.self.items z.parts) (sym n) (back-first c.args.passes.items c.pop.new.self.items c.in-Some.first _ items e.part),
    )

pub index_mut-requires-in-Some-pop : goal.index_mut-requires-in-Some-pop
index_mut-requires-in-Some-pop g c = let P : RwPassModel (E g) → Type 0 = IsPassOf c.args.self in let i = c.loop-next.invariant in
    let popped = All-pop P c.loop-next.passes.items c.pop-in-loop-next.new.self.items c.pop-in-loop-next.result c.pop-in-loop-next.ensures.items i.2 in
    let here = subst (λ o. IfSome o P) c.in-Some-pop.is popped.1 in let r = c.parted-pass-in-Some-pop.ensures.number in
    let near = subst (λ (z : BoardId). c.in-Some-pop.next.reg.me < z.table.slots) (here.0 ∙ sym (ap (λ (z : RwCellModel). z.id) i.0)) r.1 in
    let number_is = r.0 in let slots = i.1 in let sized = i.4 in omega arith

pub give-requires-clause-board : goal.give-requires-clause-board
give-requires-clause-board g c = let P : RwPassModel (E g) → Type 0 = IsPassOf c.args.self in let i = c.loop-next.invariant in
    let popped = All-pop P c.loop-next.passes.items c.pop-in-loop-next.new.self.items c.pop-in-loop-next.result c.pop-in-loop-next.ensures.items i.2 in
    let here = subst (λ o. IfSome o P) c.in-Some-pop.is popped.1 in c.parted-pass-in-Some-pop.ensures.board ∙ (here.0 ∙ sym (ap (λ (z : RwCellModel). z.id) i.0))

pub loop-next-preserved : goal.loop-next-preserved
loop-next-preserved g c = let P : RwPassModel (E g) → Type 0 = IsPassOf c.args.self in let i = c.loop-next.invariant in let old = c.loop-next.passes.items in let new = c.pop-in-loop-next.new.self.items in
    let popped = All-pop P old new c.pop-in-loop-next.result c.pop-in-loop-next.ensures.items i.2 in
    let items : old ≡ new ++ c.in-Some-pop.next ∷ [] = c.pop-in-loop-next.ensures.items ∙ ap (λ o. new ++ option_to_list o) c.in-Some-pop.is in
    let here = subst (λ o. IfSome o P) c.in-Some-pop.is popped.1 in let e = c.parted-pass-in-Some-pop.ensures in let n = c.give.ensures in
    let near = subst (λ (z : BoardId). c.in-Some-pop.next.reg.me < z.table.slots) (here.0 ∙ sym (ap (λ (z : RwCellModel). z.id) i.0)) e.number.1 in
    let slots = i.1 in let sized = i.4 in
    let small = small-for g c.in-Some-pop.next.reg.me c.loop-next.lists (omega arith) in (
      ap (λ (z : ClosingModel). cell_on z.board) n ∙ i.0,
      ap (λ (z : ClosingModel). z.board.id.table.slots) n ∙ i.1,
      popped.0,
      i.3 ∙ (given-more given old new c.in-Some-pop.next _ c.loop-next.closing.back items (sym e.given) ∙ ap (λ (z : ClosingModel). map given new ++ z.back) (sym n)),
      search rules,
      λ once. sorted-at number (R g) c.args.passes.items old new c.in-Some-pop.next c.loop-next.lists.items c.parted-pass-in-Some-pop.result.2 c.parted-pass-in-Some-pop.result.1 e.number.0 once items
          small (e.reads, e.keeps) (i.5 once),
      subst (λ (z : ClosingModel). AreBack c.args.passes.items new z.parts) (sym n) (back-more c.args.passes.items old new c.in-Some-pop.next _ c.loop-next.closing.parts items e.part i.6),
    )

module _ (g : given_here.Over) (c : In_default-pop g) where
  all-back : map given c.args.passes.items ≡ c.loop-next.closing.back
  all-back = let i = c.loop-next.invariant in let n = c.in_default-pop.ensures.cases.0 in let ok = c.loop-next.passes.ok.0 in i.3 ∙ none-left given c.loop-next.passes.items c.loop-next.closing.back (omega arith)

pub finish-requires : goal.finish-requires
finish-requires g c = let i = c.loop-next.invariant in let b = all-back g (goal.at.finish-requires g c).In_default-pop in record {
  all = λ k h. let a = given-of c.args.passes.items k (c.requires.all k (subst (λ (z : RwCellModel). k < z.count) i.0 h)) in (a.0, subst (IsAmong a.0) b a.1, a.2);
}

module _ (g : given_here.Over) (c : After-parts_of-copies g) (back : map given c.args.passes.items ≡ c.loop-next.closing.back) where
  abbrev writes : List (E g)
  writes = c.parts_of-copies.result.1.items

  abbrev total : List Action
  total = c.finish.ensures.values.0

  opening : opening_of c.loop-next.closing.board.initial_state ≡ c.args.self.opening
  opening = ap (λ (z : RwCellModel). z.opening) c.loop-next.invariant.0

  told : actions g.O.Object.call_numbers g.O.Object.reply_numbers writes ≡ total
  told = (c.parts_of-copies.ensures.parts c.loop-next.closing.board.initial_state total c.finish.ensures.values.1).0

  -- what the passes saw, of the writes
  seen : (h : Given) → IsAmong h (map given c.args.passes.items) → HasSeen (actions g.O.Object.call_numbers g.O.Object.reply_numbers writes) h.number h.history
  seen h has = subst (λ (t : List Action). HasSeen t h.number h.history) (sym told) (c.finish.ensures.values.2 h (subst (IsAmong h) back has))

  taken : length c.loop-next.passes.items ≡ 0
  taken = let n = c.in_default-pop.ensures.cases.0 in let ok = c.loop-next.passes.ok.0 in omega arith

  lists-long : length (map (λ (v : Vec (E g) Global). v.items) c.loop-next.lists.items) ≡ c.args.self.count
  lists-long = let l = length-map c.loop-next.lists.items (λ (v : Vec (E g) Global). v.items) in let ok = c.loop-next.lists.ok.0 in let i = c.loop-next.invariant.4 in omega arith

  -- the board took each pass back once
  once : AreOnce c.args.passes.items
  once = each-once c.args.passes.items c.loop-next.closing.parts (all-told c.args.passes.items c.loop-next.passes.items c.loop-next.closing.parts taken c.loop-next.invariant.6) c.finish.ensures.run.2.apart

  -- the list of a pass
  list-of : (j : ℕ) (p : RwPassModel (E g)) → slice_get c.args.passes.items j ≡ Some p → (v : Vec (E g) Global) × (slice_get c.loop-next.lists.items (number p) ≡ Some v) × R g p v
  list-of j p at = let n = taken in (c.loop-next.invariant.5 once).1 j p (omega arith) at

  abbrev lists : List (List (E g))
  lists = map (λ (v : Vec (E g) Global). v.items) c.loop-next.lists.items

  each-kept : EachKept g.O.Object.call_numbers g.O.Object.reply_numbers g.O.Object.reads g.O.Object.reply_at g.O.Object.state_after c.args.self.opening writes lists
  each-kept k d h =
      let n = lists-long in
      let f = pass-of c.args.passes.items k (c.requires.all k (omega arith)) in
      let p : RwPassModel (E g) = f.1 in
      let l = list-of f.0 p f.2 in
      let got : get_or lists k d ≡ p.reads = ap (λ n. get_or lists n d) (sym f.3) ∙ (mapped-at (λ (v : Vec (E g) Global). v.items) c.loop-next.lists.items (number p) d l.0 l.1 ∙ l.2.0) in
      let of_cell = all-at (IsPassOf c.args.self) c.args.passes.items f.0 p c.requires.cell f.2 in (
        p.seen,
        (seen-at (actions g.O.Object.call_numbers g.O.Object.reply_numbers writes) c.args.passes.items f.0 p seen f.2).0,
        subst (λ (z : List ℕ × ℕ × List (E g)). Keeps g.O.Object.call_numbers g.O.Object.reply_numbers g.O.Object.reads g.O.Object.reply_at g.O.Object.state_after z.0 writes z.1 p.seen z.2)
            (λ j. (of_cell.1 j, f.3 j, sym got j)) l.2.1,
      )

  own-lists : All (λ p. get_or lists (number p) [] ≡ p.reads) c.args.passes.items
  own-lists i d h = let p : RwPassModel (E g) = get_or c.args.passes.items i d in let l = list-of i p (some-at c.args.passes.items i d h) in
      mapped-at (λ (v : Vec (E g) Global). v.items) c.loop-next.lists.items (number p) [] l.0 l.1 ∙ l.2.0

module _ (g : given_here.Over) (c : After-parts_of-copies g) (back : map given c.args.passes.items ≡ c.loop-next.closing.back) where
  in-order : All (λ p. actions_by (number p) (actions g.O.Object.call_numbers g.O.Object.reply_numbers (merged (λ e. e.receipt) (writes g c back) (lists g c back))) ≡ calls_of g.O.Object.call_numbers g.O.Object.reply_numbers p) c.args.passes.items
  in-order i d h =
      let p : RwPassModel (E g) = get_or c.args.passes.items i d in
      let at = some-at c.args.passes.items i d h in
      let l = list-of g c back i p at in
      let s = seen-at (actions g.O.Object.call_numbers g.O.Object.reply_numbers (writes g c back)) c.args.passes.items i p (seen g c back) at in
      let inside : number p < length (lists g c back) = (let n = got-inside c.loop-next.lists.items (number p) l.0 l.1 in let m = length-map c.loop-next.lists.items (λ (v : Vec (E g) Global). v.items) in omega arith) in
      calls_in_order g.O.Object.call_numbers g.O.Object.reply_numbers (number p) (lists g c back) inside
      (λ j e b k x less. let o = (each-kept g c back j e b).2.own k x less in omega arith)
      (writes g c back) p.seen s.0.0 p.reads s.0.1 (none-between (number p) (actions g.O.Object.call_numbers g.O.Object.reply_numbers (writes g c back)) p.seen s.0.0 s.0.1 s.1)
      (mapped-at (λ (v : Vec (E g) Global). v.items) c.loop-next.lists.items (number p) [] l.0 l.1 ∙ l.2.0) l.2.1.within

pub returns-clause-copies : goal.returns-clause-copies
returns-clause-copies g c = let d = (goal.at.returns-clause-copies g c).After-parts_of-copies in let b = all-back g (goal.at.returns-clause-copies g c).In_default-pop in
    let O = g.O.Object in let i = c.loop-next.invariant in let parts = c.parts_of-copies.ensures.parts c.loop-next.closing.board.initial_state (total g d b) c.finish.ensures.values.1 in (
      c.parts_of-copies.ensures.len ∙ (c.finish.ensures.len ∙ i.1),
      subst (λ (z : List ℕ × List Operation). All (λ o. O.state_numbers o ≡ state_left O.state_after z.0 z.1) c.parts_of-copies.result.0.items)
          (λ j. (opening g d b j, sym (operations-total O.call_numbers O.reply_numbers (writes g d b) (total g d b) (told g d b)) j)) parts.2,
    )

pub returns-clause-writes : goal.returns-clause-writes
returns-clause-writes g c = let d = (goal.at.returns-clause-writes g c).After-parts_of-copies in let b = all-back g (goal.at.returns-clause-writes g c).In_default-pop in
    let O = g.O.Object in let i = c.loop-next.invariant in let parts = c.parts_of-copies.ensures.parts c.loop-next.closing.board.initial_state (total g d b) c.finish.ensures.values.1 in record {
      legal = subst (λ (s : List ℕ). IsLegal O.reply_at O.state_after s (operations O.call_numbers O.reply_numbers (writes g d b))) (opening g d b) parts.1;
      seen = seen-of (actions O.call_numbers O.reply_numbers (writes g d b)) c.args.passes.items (seen g d b);
      nobody_else = λ k h. ap (actions_by k) (told g d b) ∙ c.finish.ensures.values.3 k (subst (λ (z : RwCellModel). z.count ≤ k) (sym i.0) h);
      places = c.parts_of-copies.ensures.places;
    }

pub returns-clause-reads : goal.returns-clause-reads
returns-clause-reads g c = let d = (goal.at.returns-clause-reads g c).After-parts_of-copies in let b = all-back g (goal.at.returns-clause-reads g c).In_default-pop in
    let O = g.O.Object in record {
      count = lists-long g d b;
      lists = own-lists g d b;
      own = λ k h. own_all O.call_numbers O.reply_numbers O.reads O.reply_at O.state_after c.args.self.opening (writes g d b) (lists g d b) (each-kept g d b) k (let n = lists-long g d b in omega arith);
      in_order = in_order_all O.call_numbers O.reply_numbers O.reads O.reply_at O.state_after c.args.self.opening (writes g d b) (lists g d b) (each-kept g d b);
      order = in-order g d b;
      within = within_all O.call_numbers O.reply_numbers O.reads O.reply_at O.state_after c.args.self.opening (writes g d b) (lists g d b) (each-kept g d b);
      fit = fit_all O.call_numbers O.reply_numbers O.reads O.reply_at O.state_after c.args.self.opening (writes g d b) (lists g d b) (each-kept g d b);
    }

pub returns-clause-run : goal.returns-clause-run
returns-clause-run g c = let d = (goal.at.returns-clause-run g c).After-parts_of-copies in let b = all-back g (goal.at.returns-clause-run g c).In_default-pop in
    let i = c.loop-next.invariant in let r = c.finish.ensures.run in
    let made = (c.parts_of-copies.ensures.parts c.loop-next.closing.board.initial_state r.0 r.1).0 in record {
      parts = c.loop-next.closing.parts;
      told = all-told c.args.passes.items c.loop-next.passes.items c.loop-next.closing.parts (taken g d b) i.6;
      run = subst (λ (z : RwCellModel × List Action). RanUntilClosed z.0.id.rules z.0.id.attrs z.0.count c.loop-next.closing.parts z.1) (λ j. (i.0 j, sym made j)) r.2;
    }
