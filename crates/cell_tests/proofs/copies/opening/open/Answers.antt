use Rattle.std.proofs.Common.{◌<◌, ap, sym, subst}
use Rattle.std.proofs.lemmas.Option.{get_or_from_slice_get}
use Rattle.rw_cell.specs.RwCells.{RwPassModel}
use Rattle.cell_tests.proofs.copies.opening.open.Goals as goal

pub returns-clause-left : goal.returns-clause-left
returns-clause-left c k d within = let e = c.in_ok-cell.ensures in
    ap (λ (p : RwPassModel _). p.left) (get_or_from_slice_get c.in_ok-cell.passes.items k _ d (e.passes k (subst (λ n. k < n) (sym e.count) within)))
