use Rattle.std.proofs.Common.{sym, subst}
use Rattle.shfl_core.specs.Waiting.{MayUse}
use Rattle.shfl_table.specs.PassModel.{PassModel}
use Rattle.shfl_table.proofs.Entry.{acquire-kept}
use Rattle.shfl_table.proofs.passes.Pass.acquire.Goals as goal

pub invariant_of-self : goal.invariant_of-self
invariant_of-self g c = let i = c.self.inside in acquire-kept g.V.Kept.initial_state g.V.Kept.history i.rules i.own i.seat.table_id i.seat.me c.self.invariant c.args.mode c.acquire_row_in_place.new.pass
    (subst (λ (m : PassModel _). MayUse m.board.rules.form c.args.mode) (sym c.self.view_is) c.requires.mode) c.acquire_row_in_place.ensures.after
