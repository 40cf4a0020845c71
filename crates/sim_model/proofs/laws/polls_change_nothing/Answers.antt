use Rattle.sim_model.proofs.Calm.{polls-change-nothing}
use Rattle.sim_model.proofs.laws.polls_change_nothing.Goals as goal

pub returns : goal.returns
returns c = polls-change-nothing
