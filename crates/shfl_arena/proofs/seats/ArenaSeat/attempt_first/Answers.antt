use Rattle.std.proofs.Common.{◌<◌, sym, ap, ◌∙◌, subst}
use Rattle.shfl_core.specs.Plan.{moving}
use Rattle.shfl_core.specs.Take.{attempted}
use Rattle.shfl_core.specs.declared.phase.PassState.{PassState}
use Rattle.shfl_arena.specs.ArenaWords.{word_count}
use Rattle.shfl_arena.specs.SeatModels.{ArenaId, ArenaModel, SeatModel}
use Rattle.shfl_arena.specs.SeatSteps.{TriesOnce}
use Rattle.shfl_arena.proofs.SeatKept.{attempt-kept, attempt-told}
use Rattle.shfl_arena.proofs.seats.ArenaSeat.attempt_first.Goals as goal

pub invariant_of-self : goal.invariant_of-self
invariant_of-self g c = let i = c.self.inside in let o = c.attempt_once-found.ensures in let threads = c.arena.inside.table.shared.key.threads in
    let p = ap (λ (m : SeatModel _). m.arena) c.self.view_is ∙ (c.requires.arena ∙ ap (λ (a : ArenaModel). a.id) (sym c.arena.view_is)) in (
      attempt-kept i.shape i.rules i.own i.lock i.seat.table_id i.seat.me c.self.invariant.0 (ap (λ (m : SeatModel _). moving m.own) c.self.view_is ∙ c.requires.rests) c.args.lock
          (subst (λ (m : SeatModel _). c.args.lock < m.arena.shape.locks) (sym c.self.view_is) c.requires.lock) threads c.args.mode c.attempt_once-found.result c.attempt_once-found.new.seat.me
          c.attempt_row_in_place.new.pass (c.attempt_row_in_place.ensures ∙ ap (λ (q : PassState). attempted c.args.mode q.reg c.attempt_once-found.result) c.make_blank.ensures) o.play c.attempt_once-found.new.seat.table_id o.seat.0
          (ap (λ (a : ArenaId). a.table.words) p ∙ (c.arena.invariant.0 ∙ ap (λ (a : ArenaId). word_count a.shape threads) (sym p))),
      c.self.invariant.1,
    )

pub returns : goal.returns
returns g c = let i = c.self.inside in let o = c.attempt_once-found.ensures in let threads = c.arena.inside.table.shared.key.threads in
    subst (λ (m : SeatModel _). TriesOnce c.args.lock c.args.mode c.attempt_once-found.result m (record { arena = record { table = c.attempt_once-found.new.seat.table_id; rules = i.rules; shape = i.shape }; lock = c.args.lock; own = c.attempt_row_in_place.new.pass; holds = c.attempt_once-found.new.seat.me.0.thread.holds; steps_taken = c.attempt_once-found.new.seat.me.0.steps_taken; decisions = c.attempt_once-found.new.seat.me.0.decisions; values = c.attempt_once-found.new.seat.me.1 })) c.self.view_is
    (attempt-told i.shape i.rules i.own i.lock i.seat.table_id i.seat.me c.self.invariant.0 (ap (λ (m : SeatModel _). moving m.own) c.self.view_is ∙ c.requires.rests) c.args.lock
    (subst (λ (m : SeatModel _). c.args.lock < m.arena.shape.locks) (sym c.self.view_is) c.requires.lock) threads c.args.mode c.attempt_once-found.result c.attempt_once-found.new.seat.me
    c.attempt_row_in_place.new.pass (c.attempt_row_in_place.ensures ∙ ap (λ (q : PassState). attempted c.args.mode q.reg c.attempt_once-found.result) c.make_blank.ensures) o.play c.attempt_once-found.new.seat.table_id o.seat.0)
