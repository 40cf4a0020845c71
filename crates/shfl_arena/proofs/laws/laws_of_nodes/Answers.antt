use Rattle.shfl_arena.proofs.NodeLaws.{touch-law, clear-node-law, resting-law, alike-law}
use Rattle.shfl_arena.proofs.StateWords.{state-word-law}
use Rattle.shfl_arena.proofs.Attributes.{attribute-law}
use Rattle.shfl_arena.proofs.laws.laws_of_nodes.Goals as goal

pub returns : goal.returns
returns c = record { touch = touch-law; clear = clear-node-law; state_word = state-word-law; resting = resting-law; alike = alike-law; attributes = attribute-law }
