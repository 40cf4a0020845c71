use Rattle.sim_line.proofs.LawfulRuns.{runs-are-lawful}
use Rattle.sim_line.proofs.laws.runs_are_lawful.Goals as goal

pub returns : goal.returns
returns c = runs-are-lawful
