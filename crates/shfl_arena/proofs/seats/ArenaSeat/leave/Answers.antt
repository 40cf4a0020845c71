use Rattle.std.proofs.Common.{subst}
use Rattle.shfl_core.specs.declared.phase.Phase.TheVariants.{Idle}
use Rattle.shfl_arena.specs.SeatModels.{SeatModel}
use Rattle.shfl_arena.specs.Waits.{Frees}
use Rattle.shfl_arena.proofs.LastSteps.{left-kept, left-told}
use Rattle.shfl_arena.proofs.seats.ArenaSeat.leave.Goals as goal

pub invariant_of-self : goal.invariant_of-self
invariant_of-self g c = let i = c.self.inside in let o = c.leave_once.ensures in
    (left-kept i.shape i.rules i.own i.lock i.seat.table_id i.seat.me c.self.invariant.0 c.args.lock c.arena.inside.table.shared.key.threads c.leave_once.result c.args.mode c.leave_once.new.seat.me o.play c.leave_once.new.seat.table_id o.seat.0, c.self.invariant.1)

pub returns-clause-frees : goal.returns-clause-frees
returns-clause-frees g c = let i = c.self.inside in let o = c.leave_once.ensures in
    subst (λ (m : SeatModel _). Frees c.args.lock c.args.mode m (record { arena = record { table = c.leave_once.new.seat.table_id; rules = i.rules; shape = i.shape }; lock = c.args.lock; own = record i.own { phase = Idle }; holds = c.leave_once.new.seat.me.0.thread.holds; steps_taken = c.leave_once.new.seat.me.0.steps_taken; decisions = c.leave_once.new.seat.me.0.decisions; values = c.leave_once.new.seat.me.1 })) c.self.view_is
    (left-told i.shape i.rules i.own i.lock i.seat.table_id i.seat.me c.self.invariant.0 c.args.lock c.arena.inside.table.shared.key.threads c.leave_once.result c.args.mode c.leave_once.new.seat.me o.play c.leave_once.new.seat.table_id o.seat.0)
