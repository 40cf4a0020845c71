use Rattle.std.proofs.Common.{◌≡◌, ◌<◌, ℕ, List, length, slice_get, slice_index, slice_index_or, Some, sym, refl, ap, ◌∙◌, arith}
use Rattle.std.proofs.lemmas.Option.{get_or_from_slice_get}
use Rattle.hist_log.specs.declared.entry.Entry.{Entry}
use Rattle.shfl_table.specs.PassModel.{fresh_pass}
use Rattle.shfl_table.specs.Books.{BookModel, pack, opening_of, allowed_of}
use Rattle.shfl_table.proofs.PackedStates.{opening_of-pack, allowed_of-pack}
use Rattle.rw_cell.specs.RwCells.{RwPassModel, fresh, cell_on, first_state, no_attr, number, IsPassOf}
use Rattle.rw_cell.proofs.Copies.{first-initial}
use Rattle.rw_cell.proofs.OrderedPasses.{all-places}
use Rattle.rw_cell.proofs.opening.RwCellOf+Book+O+Entry+O+O.open.Given as given_here
use Rattle.rw_cell.proofs.opening.RwCellOf+Book+O+Entry+O+O.open.Goals as goal
use Rattle.rw_cell.proofs.opening.RwCellOf+Book+O+Entry+O+O.open.Goals.{In_ok-board, In_ok-passes}

module _ (g : given_here.Over) (c : In_ok-board g) where
  -- what the board has of the opening
  packed : c.in_ok-board.board.initial_state ≡ pack (first_state g.O.Object.state_numbers c.args.copies.items) c.args.calls.now
  packed = let b = c.in_ok-books.ensures in
      let long : 0 < length c.in_ok-books.books.items = (let l = b.len in let k = c.requires.copies in let s = c.requires.some in let ok = c.in_ok-books.books.ok.0 in omega arith) in
      c.in_ok-board.ensures.board.3 ∙ first-initial (λ (x : BookModel). pack x.opening x.allowed) (λ (x : BookModel). x.history) _ c.in_ok-books.books.items long b.untouched

module _ (g : given_here.Over) (c : In_ok-passes g) where
  abbrev f : ℕ → RwPassModel (Entry g.row.O.Denot g.row.O-Call.Denot g.row.O-Reply.Denot)
  f k = fresh (cell_on c.in_ok-board.board) k (slice_index c.args.calls.now k) (slice_index_or c.args.attrs.now k no_attr)

  placed : (k : ℕ) → k < length c.in_ok-passes.passes.items → slice_get c.in_ok-passes.passes.items k ≡ Some (f k)
  placed k h = c.in_ok-passes.ensures.fresh k (let ok = c.in_ok-passes.passes.ok.0 in omega arith)

pub cell_passes-requires-clause-calls : goal.cell_passes-requires-clause-calls
cell_passes-requires-clause-calls g c = let p = packed g (goal.at.cell_passes-requires-clause-calls g c).In_ok-board in
    ap allowed_of p ∙ allowed_of-pack (first_state g.O.Object.state_numbers c.args.copies.items) c.args.calls.now

pub cell_passes-requires-clause-fresh : goal.cell_passes-requires-clause-fresh
cell_passes-requires-clause-fresh g c i h = c.in_ok-board.ensures.passes i h ∙ (λ j. Some (fresh_pass (sym c.in_ok-board.ensures.board.3 j) c.in_ok-board.board.id i))

pub returns-clause-cell : goal.returns-clause-cell
returns-clause-cell g c = let p = packed g (goal.at.returns-clause-cell g c).In_ok-board in let s = first_state g.O.Object.state_numbers c.args.copies.items in (
  c.in_ok-board.ensures.board.2 ∙ c.requires.attrs,
  ap opening_of p ∙ opening_of-pack s c.args.calls.now,
  ap allowed_of p ∙ allowed_of-pack s c.args.calls.now,
)

pub returns-clause-own : goal.returns-clause-own
returns-clause-own g c = let d = (goal.at.returns-clause-own g c).In_ok-passes in
    all-places (IsPassOf (cell_on c.in_ok-board.board)) (f g d) c.in_ok-passes.passes.items (placed g d) (λ k. (refl, refl))

pub returns-clause-in_order : goal.returns-clause-in_order
returns-clause-in_order g c k e h = let d = (goal.at.returns-clause-in_order g c).In_ok-passes in
    ap number (get_or_from_slice_get c.in_ok-passes.passes.items k (f g d k) e (placed g d k h))
