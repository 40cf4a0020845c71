use Rattle.std.proofs.Common.{◌≡◌, sym, ap, ◌∙◌, subst}
use Rattle.shfl_core.specs.Plan.{moving}
use Rattle.shfl_arena.specs.ArenaWords.{word_count}
use Rattle.shfl_arena.specs.SeatModels.{ArenaId, ArenaModel, SeatModel}
use Rattle.shfl_arena.specs.SeatSteps.{TakesStep}
use Rattle.shfl_arena.proofs.SeatKept.{step-kept, step-told}
use Rattle.shfl_arena.proofs.seats.ArenaSeat.step_found.Goals as goal

pub operate-found-requires-clause-seat : goal.operate-found-requires-clause-seat
operate-found-requires-clause-seat g c = let i = c.self.inside in let k = c.self.invariant.0 in let s = k.moves (ap (λ (m : SeatModel _). moving m.own) c.self.view_is ∙ c.requires.moving) in (k.number, s.seen, s.may)

pub invariant_of-self : goal.invariant_of-self
invariant_of-self g c = let i = c.self.inside in let o = c.operate-found.ensures in let threads = c.arena.inside.table.shared.key.threads in
    let p = ap (λ (m : SeatModel _). m.arena) c.self.view_is ∙ (c.requires.arena ∙ ap (λ (a : ArenaModel). a.id) (sym c.arena.view_is)) in (
      step-kept i.shape i.rules i.own i.lock i.seat.table_id i.seat.me c.self.invariant.0 (ap (λ (m : SeatModel _). moving m.own) c.self.view_is ∙ c.requires.moving) threads c.args.choice c.operate-found.result c.operate-found.new.seat.me
          c.take_row_in_place.new.pass c.take_row_in_place.ensures o.play c.operate-found.new.seat.table_id o.seat.0
          (ap (λ (a : ArenaId). a.table.words) p ∙ (c.arena.invariant.0 ∙ ap (λ (a : ArenaId). word_count a.shape threads) (sym p))),
      c.self.invariant.1,
    )

pub returns : goal.returns
returns g c = let i = c.self.inside in let o = c.operate-found.ensures in let threads = c.arena.inside.table.shared.key.threads in
    subst (λ (m : SeatModel _). (s : TakesStep m c.args.choice (record { arena = record { table = c.operate-found.new.seat.table_id; rules = i.rules; shape = i.shape }; lock = i.lock; own = c.take_row_in_place.new.pass; holds = c.operate-found.new.seat.me.0.thread.holds; steps_taken = c.operate-found.new.seat.me.0.steps_taken; decisions = c.operate-found.new.seat.me.0.decisions; values = c.operate-found.new.seat.me.1 })) × (s.found ≡ c.operate-found.result)) c.self.view_is
    (step-told i.shape i.rules i.own i.lock i.seat.table_id i.seat.me c.self.invariant.0 (ap (λ (m : SeatModel _). moving m.own) c.self.view_is ∙ c.requires.moving) threads c.args.choice c.operate-found.result c.operate-found.new.seat.me
    c.take_row_in_place.new.pass c.take_row_in_place.ensures o.play c.operate-found.new.seat.table_id o.seat.0)
