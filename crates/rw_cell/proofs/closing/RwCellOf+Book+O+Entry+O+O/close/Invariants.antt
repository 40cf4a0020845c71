use Rattle.std.proofs.Common.{◌≡◌, ◌++◌, map, All, vec_len}
use Rattle.rw_cell.specs.RwCells.{RwPassModel, cell_on, given, number, IsPassOf}
use Rattle.rw_cell.proofs.PassParts.{AreBack, AreOnce}
use Rattle.rw_cell.proofs.SortedReads.{Sorted, IsListOf}
use Rattle.rw_cell.proofs.closing.RwCellOf+Book+O+Entry+O+O.close.Given as goal

abbrev pub invariant-loop-next : goal.invariant-loop-next
invariant-loop-next g l = let O = g.O.Object in
    (cell_on l.closing.board ≡ l.fn.self) × (l.closing.board.id.table.slots ≡ l.fn.self.count)
    × All (IsPassOf l.fn.self) l.passes.items
    × (map given l.fn.passes.items ≡ map given l.passes.items ++ l.closing.back)
    × (vec_len l.lists ≡ l.fn.self.count)
    × (AreOnce l.fn.passes.items → Sorted number (IsListOf O.call_numbers O.reply_numbers O.reads O.reply_at O.state_after) l.fn.passes.items l.passes.items l.lists.items)
    × AreBack l.fn.passes.items l.passes.items l.closing.parts

abbrev pub decreases-loop-next : goal.decreases-loop-next
decreases-loop-next g l = vec_len l.passes
