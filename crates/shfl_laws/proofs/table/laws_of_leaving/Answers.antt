use Rattle.shfl_laws.proofs.laws.LeaveRows.{take-law, late-law}
use Rattle.shfl_laws.proofs.laws.CutRow.{cut-law}
use Rattle.shfl_laws.proofs.laws.ReadyLaw.{ready-law}
use Rattle.shfl_laws.proofs.table.laws_of_leaving.Goals as goal

pub returns : goal.returns
returns c = record { laws = λ t. record { take = take-law t; cut = cut-law t; late = late-law t; ready = ready-law t } }
