use Rattle.shfl_laws.proofs.laws.SeenAlike.{seen-alike}
use Rattle.shfl_laws.proofs.seen.lawful_as_seen.Goals as goal

pub returns : goal.returns
returns c = record { alike = seen-alike }
