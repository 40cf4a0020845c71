use Rattle.shfl_laws.proofs.laws.NextRows.{pick-law, aim-law, place-law}
use Rattle.shfl_laws.proofs.laws.MarkLaw.{mark-law}
use Rattle.shfl_laws.proofs.laws.GiveLaw.{give-law}
use Rattle.shfl_laws.proofs.table.laws_of_relinking.Goals as goal

pub returns : goal.returns
returns c = record { laws = λ t. record { pick = pick-law t; aim = aim-law t; place = place-law t; mark = mark-law t; give = give-law t } }
