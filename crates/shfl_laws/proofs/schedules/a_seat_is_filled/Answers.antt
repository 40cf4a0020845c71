use Rattle.shfl_laws.proofs.laws.Opens.{seat-law}
use Rattle.shfl_laws.proofs.schedules.a_seat_is_filled.Goals as goal

pub returns : goal.returns
returns c = record { law = seat-law }
