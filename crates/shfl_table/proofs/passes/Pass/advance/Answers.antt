use Rattle.std.proofs.Common.{sym, ap, ◌∙◌}
use Rattle.shfl_table.specs.PassModel.{BoardId, BoardModel, PassModel}
use Rattle.shfl_table.proofs.Own.{number-is, ready, row-kept, row-told}
use Rattle.shfl_table.proofs.passes.Pass.advance.Goals as goal

pub operate-found-requires-clause-seat : goal.operate-found-requires-clause-seat
operate-found-requires-clause-seat g c = let i = c.self.inside in let k = c.self.invariant in (k.live, number-is g.V.Kept.initial_state g.V.Kept.history i.rules i.own i.seat.table_id i.seat.me k, k.seen)

pub operate-found-requires-clause-ready : goal.operate-found-requires-clause-ready
operate-found-requires-clause-ready g c = let i = c.self.inside in ready g.V.Kept.initial_state g.V.Kept.history i.rules i.own i.seat.table_id i.seat.me c.self.invariant

pub invariant_of-self : goal.invariant_of-self
invariant_of-self g c = let i = c.self.inside in let o = c.operate-found.ensures in
    let p = ap (λ (m : PassModel _). m.board) c.self.view_is ∙ (c.requires.board ∙ ap (λ (b : BoardModel). b.id) (sym c.board.view_is)) in
    row-kept g.V.Kept.initial_state g.V.Kept.history i.rules i.own i.seat.table_id i.seat.me c.self.invariant _ c.args.choice c.operate-found.result c.operate-found.new.seat.me c.take_row_in_place.new.pass c.take_row_in_place.ensures o.goes o.played c.operate-found.new.seat.table_id o.seat.0 (sym (ap (λ (b : BoardId). b.rules) p)) (sym (ap (λ (b : BoardId). b.attrs) p)) (ap (λ (b : BoardId). b.table.words) p ∙ c.board.invariant.0)

pub returns-clause-row : goal.returns-clause-row
returns-clause-row g c _ = let i = c.self.inside in let o = c.operate-found.ensures in
    let p = ap (λ (m : PassModel _). m.board) c.self.view_is ∙ (c.requires.board ∙ ap (λ (b : BoardModel). b.id) (sym c.board.view_is)) in
    row-told g.V.Kept.initial_state g.V.Kept.history i.rules i.own i.seat.table_id i.seat.me c.self.invariant _ c.args.choice c.operate-found.result c.operate-found.new.seat.me c.take_row_in_place.new.pass c.take_row_in_place.ensures o.goes o.played c.operate-found.new.seat.table_id _ o.seat.0 (sym (ap (λ (b : BoardId). b.rules) p)) (sym (ap (λ (b : BoardId). b.attrs) p)) c.self.view_is c.outcome_of.result c.outcome_of.ensures
