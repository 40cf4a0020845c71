use Rattle.shfl_laws.proofs.plain.PlainMoves.{plain-one, plain-opening, plain-starts, plain-moves, plain-attempts, plain-seats, plain-runs}
use Rattle.shfl_laws.proofs.safety.every_move_in_plain_words.Goals as goal

pub returns : goal.returns
returns c = record { one = plain-one; opening = plain-opening; starts = plain-starts; moves = plain-moves; attempts = plain-attempts; seats = plain-seats; runs = plain-runs }
