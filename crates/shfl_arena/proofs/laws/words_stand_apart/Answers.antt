use Rattle.shfl_arena.proofs.CacheLines.{apart-law}
use Rattle.shfl_arena.proofs.laws.words_stand_apart.Goals as goal

pub returns : goal.returns
returns c = record { law = apart-law }
