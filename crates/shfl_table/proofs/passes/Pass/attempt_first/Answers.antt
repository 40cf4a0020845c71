use Rattle.std.proofs.Common.{sym, ap, ◌∙◌, subst}
use Rattle.shfl_core.specs.Plan.{is_idle}
use Rattle.shfl_core.specs.Waiting.{MayUse}
use Rattle.shfl_table.specs.PassModel.{BoardId, BoardModel, PassModel}
use Rattle.shfl_table.proofs.Tries.{rests, try-kept, try-told}
use Rattle.shfl_table.proofs.passes.Pass.attempt_first.Goals as goal

pub invariant_of-self : goal.invariant_of-self
invariant_of-self g c = let i = c.self.inside in let o = c.attempt_once-found.ensures in let idle = ap (λ (m : PassModel _). is_idle m.own.phase) c.self.view_is ∙ c.requires.idle in
    let p = ap (λ (m : PassModel _). m.board) c.self.view_is ∙ (c.requires.board ∙ ap (λ (b : BoardModel). b.id) (sym c.board.view_is)) in
    try-kept g.V.Kept.initial_state g.V.Kept.history i.rules i.own i.seat.table_id i.seat.me c.self.invariant idle _ c.args.mode c.attempt_once-found.result c.attempt_once-found.new.seat.me c.attempt_row_in_place.new.pass c.attempt_row_in_place.ensures o.goes o.played c.attempt_once-found.new.seat.table_id o.seat.0 (sym (ap (λ (b : BoardId). b.rules) p)) (ap (λ (b : BoardId). b.table.words) p ∙ c.board.invariant.0)

pub returns : goal.returns
returns g c = let i = c.self.inside in let o = c.attempt_once-found.ensures in let idle = ap (λ (m : PassModel _). is_idle m.own.phase) c.self.view_is ∙ c.requires.idle in
    try-told g.V.Kept.initial_state g.V.Kept.history i.rules i.own i.seat.table_id i.seat.me c.self.invariant idle _ c.args.mode c.attempt_once-found.result c.attempt_once-found.new.seat.me c.attempt_row_in_place.new.pass c.attempt_row_in_place.ensures o.goes o.played c.attempt_once-found.new.seat.table_id _ o.seat.0 c.self.view_is

pub attempt_once-found-requires-clause-seat : goal.attempt_once-found-requires-clause-seat
attempt_once-found-requires-clause-seat g c = let i = c.self.inside in let idle = ap (λ (m : PassModel _). is_idle m.own.phase) c.self.view_is ∙ c.requires.idle in
    (c.self.invariant.live, rests g.V.Kept.initial_state g.V.Kept.history i.rules i.own i.seat.table_id i.seat.me c.self.invariant idle, subst (λ (m : PassModel _). MayUse m.board.rules.form c.args.mode) (sym c.self.view_is) c.requires.mode)
