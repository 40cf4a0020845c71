use Rattle.shfl_drain.proofs.Reopening.{reopens}
use Rattle.shfl_drain.proofs.drain.stealing_is_enabled_in_the_end.Goals as goal

pub returns : goal.returns
returns c = record { law = reopens }
