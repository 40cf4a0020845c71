use Rattle.std.proofs.Common.{sym, subst}
use Rattle.shfl_core.specs.declared.words.Access.TheVariants.{Store}
use Rattle.shfl_core.specs.declared.words.Word.TheVariants.{Attr}
use Rattle.shfl_arena.specs.declared.shape.Shape.{Shape}
use Rattle.shfl_arena.specs.ArenaTable.{LawfulTable}
use Rattle.shfl_arena.specs.Operations.{Permits, still_play}
use Rattle.shfl_arena.proofs.SeatPermits.{attribute-permits}
use Rattle.shfl_arena.proofs.operation.store_attribute.Goals as goal

pub perform-requires-clause-permits : goal.perform-requires-clause-permits
perform-requires-clause-permits g c = let a = c.args in let k = a.shared.now.key in
    subst (λ (z : Shape). Permits (LawfulTable z k.rules k.threads) a.shared.now.table_id.slots a.seat.now.id a.seat.now.me still_play a.shape 0 (Store (Attr a.number) a.word)) (sym c.requires.table.1)
    (attribute-permits a.shape k.rules k.threads c.requires.some a.shared.now.table_id.slots a.seat.now.id a.seat.now.me a.number a.word c.requires.one c.requires.number c.requires.small c.requires.rests)
