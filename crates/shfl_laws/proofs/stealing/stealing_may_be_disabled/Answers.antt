use Rattle.shfl_laws.proofs.laws.Stealing.{disable-law}
use Rattle.shfl_laws.proofs.stealing.stealing_may_be_disabled.Goals as goal

pub returns : goal.returns
returns c = record { law = disable-law }
