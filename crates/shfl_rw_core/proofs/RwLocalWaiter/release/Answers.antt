use Rattle.std.proofs.Common.{◌∙◌, ap}
use Rattle.shfl_core.specs.declared.phase.PassState.{PassState}
use Rattle.shfl_core.proofs.StaysAwake.{released-awake}
use Rattle.shfl_rw_core.proofs.RwLocalWaiter.release.Goals as goal

pub invariant_of-self : goal.invariant_of-self
invariant_of-self c = let i = c.self.inside in (
  c.self.invariant.0,
  ap (λ (z : PassState). z.nap) c.release_row_in_place.ensures.after ∙ released-awake i.pass c.self.invariant.1,
)
