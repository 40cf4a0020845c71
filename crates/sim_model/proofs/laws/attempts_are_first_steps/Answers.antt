use Rattle.sim_model.proofs.Attempts.{attempts-are-first-steps}
use Rattle.sim_model.proofs.laws.attempts_are_first_steps.Goals as goal

pub returns : goal.returns
returns c = attempts-are-first-steps
