use Rattle.shfl_line.specs.declared.events.Mode.TheVariants.{Write, Read}
use Rattle.shfl_laws.proofs.laws.AttemptRows.{attempt-law}
use Rattle.shfl_laws.proofs.laws.OutsideRows.{try-uncount-law}
use Rattle.shfl_laws.proofs.table.laws_of_attempts.Goals as goal

pub returns : goal.returns
returns c = record { laws = λ t. record { write = attempt-law t Write; read = attempt-law t Read; uncount = try-uncount-law t } }
