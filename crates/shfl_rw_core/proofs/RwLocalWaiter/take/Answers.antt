use Rattle.std.proofs.Common.{◌∙◌, ap}
use Rattle.shfl_core.specs.declared.phase.PassState.{PassState}
use Rattle.shfl_core.proofs.StaysAwake.{stays-awake}
use Rattle.shfl_rw_core.proofs.RwLocalWaiter.take.Goals as goal

pub invariant_of-self : goal.invariant_of-self
invariant_of-self c = let i = c.self.inside in (
  c.self.invariant.0,
  ap (λ (z : PassState). z.nap) c.take_row_in_place.ensures ∙ stays-awake i.rules c.self.invariant.0 i.pass.reg.me i.pass c.args.found c.args.choice c.self.invariant.1,
)
