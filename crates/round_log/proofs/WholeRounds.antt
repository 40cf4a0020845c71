-- Whole rounds, one behind the other.
use Rattle.std.proofs.Common.{List, [], ◌++◌, flat_map, Option, Some, None, inr, refl}
use Rattle.shfl_line.specs.declared.choosers.Answer.{Answer}
use Rattle.shfl_line.specs.declared.choosers.Told.{Told}
use Rattle.shfl_line.specs.Rounds.{AsksBy}
use Rattle.shfl_line.proofs.Rounds.{rounds-more, so-far-none, whole-rounds}
use Rattle.round_log.specs.Logs.{InRounds}

-- nothing was told
pub in_rounds_none : (a : Option (List Told)) → InRounds a a
in_rounds_none a = ([], whole-rounds [] a a (so-far-none a))

pub in_rounds_more : (a b c : Option (List Told)) → InRounds a b → InRounds b c → InRounds a c
in_rounds_more a b c h k = (h.0 ++ k.0, rounds-more h.0 k.0 a b c h.1 k.1)

-- nothing is kept any more
pub in_rounds_lost : (a b : Option (List Told)) → InRounds a b → InRounds a None
in_rounds_lost None b h = (h.0, record { rounds = h.1.rounds; are = h.1.are; whole = h.1.whole; adds = refl })
in_rounds_lost (Some l) b h = (h.0, record { rounds = h.1.rounds; are = h.1.are; whole = h.1.whole; adds = inr refl })

-- what a pass asked, it asked in whole rounds
pub asks_whole : {D : Type 0} (answers : D → List Answer) (old new : List D) (a b : Option (List Told)) → AsksBy answers old new a b → InRounds a b
asks_whole answers old new a b h = (flat_map answers h.0, h.2)
