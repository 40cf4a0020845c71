use Rattle.std.proofs.Common.{rules, sym, ap, ◌∙◌}
use Rattle.shfl_arena.specs.SeatModels.{ArenaModel}
use Rattle.shfl_arena.proofs.Returns.{closes}
use Rattle.shfl_arena.proofs.arena.Arena.close.Goals as goal

pub drained-requires-clause-all : goal.drained-requires-clause-all
drained-requires-clause-all g c k h = let e = c.gathered-desk.ensures.stands in let key = c.self.inside.table.shared.key in let f = c.close_with.ensures.values.2 in
    let s = c.slot_count-places.ensures in let long = f.3 in let n = c.close_with.ensures.counts.1 in
    closes key.shape key.rules key.threads _ _ _ _ c.self.invariant.1 (e.0 ∙ (c.requires.all ∙ ap (λ (z : ArenaModel). z.threads) (sym c.self.view_is))) e.1 e.2 f k (search rules)
