use Rattle.sim_text.proofs.Once.{reads-once}
use Rattle.sim_text.proofs.laws.setups_are_read_once.Goals as goal

pub returns : goal.returns
returns c = reads-once
