use Rattle.shfl_laws.proofs.laws.NapRows.{doze-law, hear-law, rouse-law}
use Rattle.shfl_laws.proofs.laws.RingRow.{ring-law}
use Rattle.shfl_laws.proofs.table.laws_of_parking.Goals as goal

pub returns : goal.returns
returns c = record { laws = λ t. record { doze = doze-law t; hear = hear-law t; rouse = rouse-law t; ring = ring-law t } }
