use Rattle.std.proofs.Common.{◌≡◌, ◌<◌, Some, sym, ◌∙◌, subst}
use Rattle.shfl_line.specs.declared.events.Mode.TheVariants.{Write}
use Rattle.shfl_core.specs.declared.phase.PassState.{PassState}
use Rattle.shfl_arena.specs.Threads.{mode_held}
use Rattle.shfl_arena.specs.SeatModels.{SeatInvariant, SeatModel}
use Rattle.shfl_arena.specs.ValueMoves.{HasInFront}
use Rattle.shfl_arena.proofs.SeatKept.{release-kept}
use Rattle.shfl_arena.proofs.seats.ArenaSeat.release.Goals as goal

pub invariant_of-self : goal.invariant_of-self
invariant_of-self g c = let i = c.self.inside in (
  subst (λ (q : PassState). SeatInvariant i.shape i.rules q c.args.lock i.seat.table_id i.seat.me) (sym c.leaving_pass-self-inside.ensures)
      (release-kept i.shape i.rules i.own i.lock i.seat.table_id i.seat.me c.self.invariant.0 (sym c.is_moving.ensures ∙ c.if-is_moving.false) c.args.lock
      (subst (λ (m : SeatModel _). c.args.lock < m.arena.shape.locks) (sym c.self.view_is) c.requires.lock) c.args.mode
      (subst (λ (m : SeatModel _). mode_held c.args.lock m.holds ≡ Some c.args.mode) (sym c.self.view_is) c.requires.holds)
      (subst (λ (m : SeatModel _). c.args.mode ≡ Write → c.args.lock < m.arena.table.slots → HasInFront c.args.lock m.values) (sym c.self.view_is) c.requires.value)),
  c.self.invariant.1,
)
