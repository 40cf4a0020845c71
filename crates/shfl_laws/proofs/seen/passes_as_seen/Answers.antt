use Rattle.shfl_laws.proofs.laws.SeenAs.{seen-law, moves-unseen, idle-alike}
use Rattle.shfl_laws.proofs.seen.passes_as_seen.Goals as goal

pub returns-clause-lawful : goal.returns-clause-lawful
returns-clause-lawful c = seen-law

pub returns-clause-moves : goal.returns-clause-moves
returns-clause-moves c = moves-unseen

pub returns-clause-idle : goal.returns-clause-idle
returns-clause-idle c = idle-alike
