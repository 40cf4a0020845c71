use Rattle.shfl_laws.proofs.laws.MoveRows.{idle-law, held-law}
use Rattle.shfl_laws.proofs.laws.OutsideRows.{open-law, steal-law, release-law, read-release-law, count-law, uncount-law}
use Rattle.shfl_laws.proofs.table.laws_outside_the_queue.Goals as goal

pub returns : goal.returns
returns c = record { laws = λ t. record { steal = steal-law t; count = count-law t; uncount = uncount-law t; opened = open-law t; release = release-law t; read_release = read-release-law t; idle = idle-law t; held = held-law t } }
