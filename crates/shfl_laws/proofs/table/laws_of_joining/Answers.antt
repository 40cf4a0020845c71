use Rattle.shfl_laws.proofs.laws.InitRow.{init-law}
use Rattle.shfl_laws.proofs.laws.SwapRow.{swap-law}
use Rattle.shfl_laws.proofs.laws.NextRows.{link-law}
use Rattle.shfl_laws.proofs.laws.HeadLaws.{close-law}
use Rattle.shfl_laws.proofs.laws.LookRow.{look-law}
use Rattle.shfl_laws.proofs.table.laws_of_joining.Goals as goal

pub returns : goal.returns
returns c = record { laws = λ t. record { init = init-law t; swap = swap-law t; link = link-law t; close = close-law t; look = look-law t } }
