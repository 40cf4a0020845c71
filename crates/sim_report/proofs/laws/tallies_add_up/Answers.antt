use Rattle.sim_report.proofs.Listed.{tallies-add-up}
use Rattle.sim_report.proofs.laws.tallies_add_up.Goals as goal

pub returns : goal.returns
returns c = tallies-add-up
