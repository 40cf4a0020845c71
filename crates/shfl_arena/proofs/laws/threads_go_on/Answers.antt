use Rattle.shfl_arena.proofs.StepLaws.{arena-range-law, goes-on-law}
use Rattle.shfl_arena.proofs.laws.threads_go_on.Goals as goal

pub returns : goal.returns
returns c = record { range = arena-range-law; after = goes-on-law }
