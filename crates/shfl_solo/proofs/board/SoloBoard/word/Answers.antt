use Rattle.shfl_solo.proofs.Kept.{again}
use Rattle.shfl_solo.proofs.board.SoloBoard.word.Goals as goal

pub invariant_of-self : goal.invariant_of-self
invariant_of-self c = let i = c.self.inside in let l = i.last in let r = c.read.ensures in
    again l.rules l.words.items l.passes.items i.table.shared.key i.table.shared.table_id i.seat.table_id i.seat.id i.seat.me c.self.invariant
    c.read.new.seat.table_id c.read.new.seat.id c.read.new.seat.me r.table r.unchanged
