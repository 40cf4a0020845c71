use Rattle.shfl_drain.proofs.Beginning.{begins-or-rests}
use Rattle.shfl_drain.proofs.rounds.only_a_full_batch_begins_no_round.Goals as goal

pub returns : goal.returns
returns c = record { law = begins-or-rests }
