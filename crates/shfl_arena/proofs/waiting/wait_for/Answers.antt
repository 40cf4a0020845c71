use Rattle.std.proofs.Common.{◌∷◌, ◌∙◌, ap, inl, inr, refl, subst, sym}
use Rattle.shfl_line.proofs.Rounds.{asks-nothing}
use Rattle.shfl_arena.specs.SeatModels.{SeatModel}
use Rattle.shfl_arena.specs.Waits.{QueuesAfter, TookAtOnce, WaitsFor, answers_of, attempts_before}
use Rattle.shfl_arena.proofs.WaitSteps.{queues-first, waits-more}
use Rattle.shfl_arena.proofs.Asked.{AsksMeanwhile, asks-done, asks-step, begins-to-wait}
use Rattle.shfl_arena.proofs.waiting.wait_for.Goals as goal

pub returns-then-try_first-clause-asked : goal.returns-then-try_first-clause-asked
returns-then-try_first-clause-asked g c = asks-nothing (answers_of c.args.anchor.now) c.args.seat.now.decisions c.try_first.new.seat.decisions (g.C.Chooser.told c.args.chooser.now) c.try_first.ensures.asked

pub returns-then-not-moving-clause-asked : goal.returns-then-not-moving-clause-asked
returns-then-not-moving-clause-asked g c = asks-done c.args.anchor.now c.args.seat.now c.loop.seat _ _ (sym c.moving.ensures ∙ c.if-not-moving.true) c.loop.invariant.4

pub returns-then-try_first-clause-tried : goal.returns-then-try_first-clause-tried
returns-then-try_first-clause-tried g c = inl (subst (λ n. TookAtOnce n c.args.lock c.args.mode c.args.seat.now c.try_first.new.seat) (c.attempts_before-attempts.ensures ∙ ap attempts_before c.may_move_waiters.ensures) (c.try_first.ensures.won c.if-try_first.true))

pub returns-then-not-moving-clause-tried : goal.returns-then-not-moving-clause-tried
returns-then-not-moving-clause-tried g c = inr c.loop.invariant.5

pub loop-init : goal.loop-init
loop-init g c = let b = begins-to-wait c.args.anchor.now c.args.lock c.args.mode c.attempts_before-attempts.result c.args.seat.now c.try_first.new.seat c.acquire.new.self (g.C.Chooser.told c.args.chooser.now) c.acquire.result
    (c.try_first.ensures.lost c.if-try_first.false) c.acquire.ensures.answer c.acquire.ensures.after in (
      tt,
      tt,
      b.0,
      refl,
      b.1,
      subst (λ n. QueuesAfter n c.args.lock c.args.mode c.args.seat.now c.acquire.new.self) (c.attempts_before-attempts.ensures ∙ ap attempts_before c.may_move_waiters.ensures)
          (queues-first c.args.lock c.args.mode c.attempts_before-attempts.result c.args.seat.now c.try_first.new.seat c.acquire.new.self (c.try_first.ensures.lost c.if-try_first.false) c.acquire.result c.acquire.ensures.answer c.acquire.ensures.after),
    )

pub loop-preserved : goal.loop-preserved
loop-preserved g c = let i = c.loop.invariant in let s = c.step_on-outcome.ensures in let told = g.C.Chooser.told in let now = c.step_on-outcome.new.seat in (
  tt,
  tt,
  subst (λ (z : SeatModel _). WaitsFor c.args.lock c.args.mode c.args.seat.now z) (sym c.keep_disabled.ensures)
      (waits-more c.args.lock c.args.mode c.args.seat.now c.loop.seat now s.row.0 i.2 s.row.1),
  s.home ∙ i.3,
  subst (λ (z : SeatModel _). AsksMeanwhile c.args.anchor.now c.args.seat.now z (told c.args.chooser.now) (told c.step_on-outcome.new.chooser)) (sym c.keep_disabled.ensures)
      (asks-step c.args.anchor.now c.args.seat.now c.loop.seat now s.row.0 _ _ _ i.4 s.row.1 s.row.2),
  subst (λ (z : SeatModel _). QueuesAfter (attempts_before (g.C.Chooser.moves_waiters c.args.chooser.now)) c.args.lock c.args.mode c.args.seat.now z) (sym c.keep_disabled.ensures) (record {
    before = i.5.before;
    vain = i.5.vain;
    steps = (c.loop.seat, s.row.0) ∷ i.5.steps;
    since = (i.5.since, s.row.1);
  }),
)
