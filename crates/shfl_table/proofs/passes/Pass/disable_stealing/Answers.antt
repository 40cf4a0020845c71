use Rattle.std.proofs.Common.{refl}
use Rattle.shfl_table.proofs.HeadDisables.{disabling-kept, disabling-told}
use Rattle.shfl_table.proofs.passes.Pass.disable_stealing.Goals as goal

pub invariant_of-self : goal.invariant_of-self
invariant_of-self g c = let i = c.self.inside in let o = c.disable_once.ensures in
    disabling-kept g.V.Kept.initial_state g.V.Kept.history i.rules i.own i.seat.table_id i.seat.me c.disable_once.new.seat.me c.self.invariant c.disable_once.result o.played c.disable_once.new.seat.table_id o.seat.0

pub returns-clause-made : goal.returns-clause-made
returns-clause-made g c _ = let i = c.self.inside in let o = c.disable_once.ensures in (
  c.disable_once.result,
  refl,
  o.goes.form refl,
  disabling-told g.V.Kept.initial_state g.V.Kept.history i.rules i.own i.seat.table_id i.seat.me c.disable_once.new.seat.me c.self.invariant c.disable_once.result o.played c.disable_once.new.seat.table_id _ o.seat.0 c.self.view_is,
)
