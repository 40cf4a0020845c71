use Rattle.sim_model.proofs.Counted.{sums-agree}
use Rattle.sim_model.proofs.laws.sums_agree.Goals as goal

pub returns : goal.returns
returns c = sums-agree
