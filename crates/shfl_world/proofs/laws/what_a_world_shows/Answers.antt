use Rattle.shfl_world.proofs.Facts.{well-formed, plainly, word-for-word}
use Rattle.shfl_world.proofs.laws.what_a_world_shows.Goals as goal

pub returns : goal.returns
returns c = record { well_formed = well-formed; headline = plainly; world = word-for-word }
