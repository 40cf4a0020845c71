use Rattle.std.proofs.Common.{◌≡◌, ◌<◌, None, sym, ◌∙◌, subst}
use Rattle.shfl_core.specs.declared.phase.PassState.{PassState}
use Rattle.shfl_core.specs.Waiting.{MayUse}
use Rattle.shfl_arena.specs.Threads.{mode_held}
use Rattle.shfl_arena.specs.SeatModels.{SeatInvariant, SeatModel}
use Rattle.shfl_arena.proofs.SeatKept.{acquire-kept}
use Rattle.shfl_arena.proofs.seats.ArenaSeat.acquire.Goals as goal

pub invariant_of-self : goal.invariant_of-self
invariant_of-self g c = let i = c.self.inside in (
  subst (λ (q : PassState). SeatInvariant i.shape i.rules q c.args.lock i.seat.table_id i.seat.me) (sym c.entering_pass-self-inside.ensures)
      (acquire-kept i.shape i.rules i.own i.lock i.seat.table_id i.seat.me c.self.invariant.0 (sym c.is_moving.ensures ∙ c.if-is_moving.false) c.args.lock
      (subst (λ (m : SeatModel _). c.args.lock < m.arena.shape.locks) (sym c.self.view_is) c.requires.lock) c.args.mode
      (subst (λ (m : SeatModel _). MayUse m.arena.rules.form c.args.mode) (sym c.self.view_is) c.requires.mode)
      (subst (λ (m : SeatModel _). mode_held c.args.lock m.holds ≡ None) (sym c.self.view_is) c.requires.free)),
  c.self.invariant.1,
)
