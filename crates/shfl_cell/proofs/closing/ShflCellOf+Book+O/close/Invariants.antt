use Rattle.std.proofs.Common.{◌≡◌, ◌++◌, List, map, All, vec_len}
use Rattle.shfl_cell.specs.Cells.{CellPassModel, cell_on, given, ArePartsOf}
use Rattle.shfl_cell.proofs.closing.ShflCellOf+Book+O.close.Given as goal

abbrev pub invariant-loop-pass : goal.invariant-loop-pass
invariant-loop-pass g l =
    (cell_on l.closing.board ≡ l.fn.self) × (l.closing.board.id.table.slots ≡ 1)
    × All (λ (p : CellPassModel). p.cell ≡ l.fn.self.id) l.passes.items
    × (map given l.fn.passes.items ≡ map given l.passes.items ++ l.closing.back)
    × ((back : List CellPassModel) × (l.fn.passes.items ≡ l.passes.items ++ back) × ArePartsOf back l.closing.parts)

abbrev pub decreases-loop-pass : goal.decreases-loop-pass
decreases-loop-pass g l = vec_len l.passes
