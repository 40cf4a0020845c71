use Rattle.std.proofs.Common.{sym, ap, ◌∙◌}
use Rattle.shfl_core.specs.declared.phase.Rules.{Rules}
use Rattle.shfl_core.specs.Plan as core
use Rattle.sim_model.proofs.Allowed.{writes}
use Rattle.sim_model.proofs.run.call.Goals as goal

pub acquire-requires-clause-mode : goal.acquire-requires-clause-mode
acquire-requires-clause-mode c = λ e. c.mode_of-mode.ensures.mode
    ∙ writes c.args.setup.now _ (ap (λ (r : Rules). core.shares r.form) (sym c.requires.rules) ∙ e)
