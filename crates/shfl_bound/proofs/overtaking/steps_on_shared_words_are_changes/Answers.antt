use Rattle.shfl_bound.proofs.SharedSteps.{shared-step-law}
use Rattle.shfl_bound.proofs.overtaking.steps_on_shared_words_are_changes.Goals as goal

pub returns : goal.returns
returns c = record { law = shared-step-law }
