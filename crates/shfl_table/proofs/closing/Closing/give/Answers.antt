use Rattle.std.proofs.Common.{arith, ◌<◌, sym, ap, ◌∙◌}
use Rattle.shfl_table.specs.PassModel.{BoardId, BoardModel, ClosingModel}
use Rattle.shfl_table.proofs.Ends.{joins}
use Rattle.shfl_table.proofs.closing.Closing.give.Goals as goal

pub join_seat-requires : goal.join_seat-requires
join_seat-requires g c = let i = c.self.invariant in let e = c.seat_of-other.ensures in let b = ap (λ (z : BoardModel). z.id.table) (sym c.board.view_is) in
    let words : 0 < c.board.inside.table.shared.table_id.words = (let w = c.board.invariant.0 in omega arith) in (
      i.0 ∙ b,
      e.0 ∙ (ap (λ (z : BoardId). z.table) c.requires.board ∙ (ap (λ (z : ClosingModel). z.board.id.table) (sym c.self.view_is) ∙ b)),
      e.4,
      words,
      joins g.V.Kept.initial_state g.V.Kept.history _ _ _ _ _ _ i.1 e.1 e.2,
    )
