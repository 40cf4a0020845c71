use Rattle.std.proofs.Common.{sym, ◌∙◌, Some}
use Rattle.shfl_table.proofs.Turning.{first_value}
use Rattle.shfl_table.proofs.visits.visited_here.Goals as goal

pub slot_mut-requires : goal.slot_mut-requires
slot_mut-requires g c = let t = c.requires.there in (c.requires.board, (Some t.0, t.1))

pub unreachable-requires : goal.unreachable-requires
unreachable-requires g c = let t = c.requires.there in c.in_default.not-Some t.0 (first_value c.args.place _ _ _ _ (sym c.slot_mut.ensures.value ∙ t.1))
