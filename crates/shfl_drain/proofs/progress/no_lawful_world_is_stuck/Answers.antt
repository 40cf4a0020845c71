use Rattle.shfl_drain.proofs.NeverStuck.{never-stuck, free-at-rest}
use Rattle.shfl_drain.proofs.progress.no_lawful_world_is_stuck.Goals as goal

pub returns-clause-law : goal.returns-clause-law
returns-clause-law c = never-stuck

pub returns-clause-at_rest : goal.returns-clause-at_rest
returns-clause-at_rest c = free-at-rest
