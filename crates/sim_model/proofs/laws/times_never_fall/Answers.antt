use Rattle.sim_model.proofs.Turned.{times-never-fall}
use Rattle.sim_model.proofs.laws.times_never_fall.Goals as goal

pub returns : goal.returns
returns c = times-never-fall
