use Rattle.shfl_arena.proofs.Openings.{arena-opening-law, arena-thread-law}
use Rattle.shfl_arena.proofs.laws.openings_of_arenas.Goals as goal

pub returns : goal.returns
returns c = record { opening = arena-opening-law; threads = arena-thread-law }
