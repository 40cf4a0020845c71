use Rattle.std.proofs.Common.{◌∙◌, ap}
use Rattle.shfl_core.specs.declared.phase.PassState.{PassState}
use Rattle.shfl_core.specs.declared.phase.Rules.{Rules}
use Rattle.shfl_core.specs.Plan.{parks}
use Rattle.shfl_core.proofs.StaysAwake.{stays-awake}
use Rattle.shfl_core.proofs.local.LocalWaiter.take.Goals as goal

pub invariant_of-self : goal.invariant_of-self
invariant_of-self c = ap (λ (z : PassState). z.nap) c.take_row_in_place.ensures
    ∙ stays-awake c.spinning.result (ap (λ (z : Rules). parks z.form) c.spinning.ensures) c.self.inside.pass.reg.me c.self.inside.pass c.args.found c.args.choice c.self.invariant
