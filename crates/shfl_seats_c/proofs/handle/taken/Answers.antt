use Rattle.std.proofs.Common.{rules}
use Rattle.shfl_seats_c.proofs.handle.taken.Goals as goal

pub into_box-requires : goal.into_box-requires
into_box-requires c = (c.requires.0, search rules)
