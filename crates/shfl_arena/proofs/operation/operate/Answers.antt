use Rattle.std.proofs.Common.{ℕ, Bool, sym, ap, subst}
use Rattle.atomic_table.specs.Seated.{TableId}
use Rattle.shfl_core.specs.declared.phase.PassState.{PassState}
use Rattle.shfl_core.specs.declared.phase.Rules.{Rules}
use Rattle.shfl_core.specs.declared.words.Access.{Access}
use Rattle.shfl_core.specs.Take.{take}
use Rattle.shfl_arena.specs.declared.shape.Shape.{Shape}
use Rattle.shfl_arena.specs.ArenaTable.{LawfulTable}
use Rattle.shfl_arena.specs.Operations.{LockTerms, Permits, step_play}
use Rattle.shfl_arena.specs.ValueMoves.{MayGive, writes}
use Rattle.shfl_arena.proofs.SeatPermits.{step-permits}
use Rattle.shfl_arena.proofs.operation.operate.Goals as goal

pub perform-requires-clause-permits : goal.perform-requires-clause-permits
perform-requires-clause-permits g c = let a = c.args in let k = a.shared.now.key in let m = c.requires.made in let s = c.requires.seat in
    subst (λ (z : Shape × Rules × LockTerms × PassState × Bool × Access). Permits (LawfulTable z.0 z.1 k.threads) a.shared.now.table_id.slots a.seat.now.id a.seat.now.me (step_play z.2 z.3 z.4) a.shape a.lock z.5)
    (λ j. (sym c.requires.table.2 j, sym c.requires.table.1 j, sym m.0 j, sym m.1 j, sym m.2 j, sym c.plan_row-access.ensures j))
    (step-permits a.shape a.rules k.threads a.lock c.requires.lock a.shared.now.table_id.slots a.seat.now.id a.seat.now.me c.requires.one a.own a.choice s.0 s.1 s.2
    (subst (λ n. (i : ℕ) → MayGive n a.lock (writes a.own) (writes (take a.rules a.own.reg.me a.own i a.choice)) a.seat.now.me.1) (ap (λ (z : TableId). z.slots) c.requires.table.0) c.requires.ready))
