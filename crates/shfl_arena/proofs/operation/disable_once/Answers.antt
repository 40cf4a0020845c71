use Rattle.std.proofs.Common.{sym, subst}
use Rattle.shfl_laws.specs.Stealing.{disable_plan}
use Rattle.shfl_arena.specs.declared.shape.Shape.{Shape}
use Rattle.shfl_arena.specs.ArenaTable.{LawfulTable}
use Rattle.shfl_arena.specs.Operations.{Permits, still_play}
use Rattle.shfl_arena.proofs.SeatPermits.{disable-permits}
use Rattle.shfl_arena.proofs.operation.disable_once.Goals as goal

pub perform-requires-clause-permits : goal.perform-requires-clause-permits
perform-requires-clause-permits g c = let a = c.args in let k = a.shared.now.key in
    subst (λ (z : Shape). Permits (LawfulTable z k.rules k.threads) a.shared.now.table_id.slots a.seat.now.id a.seat.now.me still_play a.shape a.lock disable_plan) (sym c.requires.table.1)
    (disable-permits a.shape k.rules k.threads a.lock c.requires.lock a.shared.now.table_id.slots a.seat.now.id a.seat.now.me)
