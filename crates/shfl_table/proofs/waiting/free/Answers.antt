use Rattle.std.proofs.Common.{ap, ◌∙◌, subst, false}
use Rattle.shfl_core.specs.Plan.{moving}
use Rattle.shfl_table.specs.PassModel.{PassModel}
use Rattle.shfl_table.specs.PassSteps.{TakesStep}
use Rattle.shfl_table.proofs.WaitSteps.{frees-lock}
use Rattle.shfl_table.proofs.waiting.free.Goals as goal

pub returns : goal.returns
returns g c xs says = let r = c.release.ensures.after in let s = c.step.ensures in
    frees-lock g.V.Kept.initial_state g.V.Kept.history c.args.pass.now c.step.new.self c.requires.holds c.step.result (s.moving ∙ ap (λ (z : PassModel _). moving z.own) r)
    (λ m. subst (λ (z : PassModel _). TakesStep g.V.Kept.initial_state g.V.Kept.history z false c.step.new.self) r (s.row m)) xs says
