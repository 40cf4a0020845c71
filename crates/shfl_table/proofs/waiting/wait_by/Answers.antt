use Rattle.std.proofs.Common.{◌≡◌, true, false, sym, ap, ◌∙◌, subst, refl}
use Rattle.shfl_line.proofs.Rounds.{asks-nothing}
use Rattle.shfl_core.specs.Asking.{IsOpenInRounds}
use Rattle.shfl_table.specs.PassModel.{PassModel}
use Rattle.shfl_table.specs.Queueing.{attempts_before}
use Rattle.shfl_table.specs.Waits.{TriedInVain, WaitsFor, answers_of}
use Rattle.shfl_table.proofs.WaitSteps.{AsksMeanwhile, asks-begun, asks-done, asks-step, waits-after, waits-beside, waits-first, waits-in, waits-more, rests-now}
use Rattle.shfl_table.proofs.OpenRounds.{rests-closed}
use Rattle.shfl_table.proofs.waiting.wait_by.Goals as goal

pub loop-init : goal.loop-init
loop-init g c = let p = c.args.pass.now in let r = c.acquire.ensures.after in let told = g.C.Chooser.told c.args.chooser.now in let q = c.try_first.new.pass in let v = c.try_first.ensures.lost c.if-try_first.false in
    let bound = c.attempts_before-attempts.ensures ∙ ap (attempts_before c.args.queueing) c.may_move_waiters.ensures in (
      tt,
      search,
      subst (λ (z : PassModel _). WaitsFor g.V.Kept.initial_state g.V.Kept.history (attempts_before c.args.queueing (g.C.Chooser.moves_waiters c.args.chooser.now)) c.args.mode p z) (sym r)
          (waits-after g.V.Kept.initial_state g.V.Kept.history (attempts_before c.args.queueing (g.C.Chooser.moves_waiters c.args.chooser.now)) c.args.mode p q _ (subst (λ n. TriedInVain n p q) bound v) (waits-first g.V.Kept.initial_state g.V.Kept.history 0 c.args.mode q v.rests (v.out ∙ c.requires.idle.1))),
      subst (λ (z : PassModel _). AsksMeanwhile c.args.anchor.now p z told told) (sym r) (asks-begun c.args.anchor.now p q c.args.mode told v.rests v.asked),
      refl,
      λ closed is. absurd (let x : true ≡ false = sym is ∙ closed in cc),
    )

pub returns-then-try_first-clause-asked : goal.returns-then-try_first-clause-asked
returns-then-try_first-clause-asked g c = asks-nothing (answers_of c.args.anchor.now) c.args.pass.now.decisions c.try_first.new.pass.decisions (g.C.Chooser.told c.args.chooser.now) c.try_first.ensures.asked

pub loop-preserved : goal.loop-preserved
loop-preserved g c = let i = c.loop.invariant in let s = c.step_on-outcome.ensures in let p = c.args.pass.now in let row = s.row.1 in let now = c.loop.pass in let d = c.keep_disabled.ensures.disabled in let told = g.C.Chooser.told in let attempts = attempts_before c.args.queueing (g.C.Chooser.moves_waiters c.args.chooser.now) in (
  search,
  search,
  subst (λ (z : PassModel _). WaitsFor g.V.Kept.initial_state g.V.Kept.history attempts c.args.mode p z) (sym d.2)
      (waits-beside g.V.Kept.initial_state g.V.Kept.history attempts c.args.mode p c.step_on-outcome.new.pass d.0 d.1 (waits-more g.V.Kept.initial_state g.V.Kept.history attempts c.args.mode p now c.step_on-outcome.new.pass s.row.0 i.2 row)),
  subst (λ (z : PassModel _). AsksMeanwhile c.args.anchor.now p z (told c.args.chooser.now) (told c.step_on-outcome.new.chooser)) (sym d.2)
      (asks-step c.args.anchor.now g.V.Kept.initial_state g.V.Kept.history p now c.step_on-outcome.new.pass s.row.0 _ _ _ i.3 row s.row.2),
  s.home ∙ i.4,
  λ closed. subst (λ (z : PassModel _). IsOpenInRounds (g.C.Chooser.in_round c.step_on-outcome.new.chooser) z.own) (sym d.2) (s.in_round (i.5 closed)),
)

pub step_on-outcome-requires-clause-board : goal.step_on-outcome-requires-clause-board
step_on-outcome-requires-clause-board g c = c.loop.invariant.2.board ∙ c.requires.board

pub keep_disabled-requires : goal.keep_disabled-requires
keep_disabled-requires g c = record { board = ap (λ (z : PassModel _). z.board) c.step_on-outcome.ensures.row.1.row ∙ (c.loop.invariant.2.board ∙ c.requires.board) }

pub returns-then-not-moving-clause-home : goal.returns-then-not-moving-clause-home
returns-then-not-moving-clause-home g c = c.loop.invariant.4

pub returns-then-not-moving-clause-holds : goal.returns-then-not-moving-clause-holds
returns-then-not-moving-clause-holds g c = rests-now c.loop.pass.own c.loop.invariant.2.goes_on (sym c.moving.ensures ∙ c.if-not-moving.true)

pub returns-then-not-moving-clause-waited : goal.returns-then-not-moving-clause-waited
returns-then-not-moving-clause-waited g c = c.loop.invariant.2

pub returns-then-not-moving-clause-asked : goal.returns-then-not-moving-clause-asked
returns-then-not-moving-clause-asked g c = asks-done c.args.anchor.now c.args.pass.now c.loop.pass _ _ (rests-now c.loop.pass.own c.loop.invariant.2.goes_on (sym c.moving.ensures ∙ c.if-not-moving.true)) c.loop.invariant.3

pub returns-then-not-moving-clause-in_round : goal.returns-then-not-moving-clause-in_round
returns-then-not-moving-clause-in_round g c closed = rests-closed (g.C.Chooser.in_round c.loop.chooser) c.loop.pass.own (rests-now c.loop.pass.own c.loop.invariant.2.goes_on (sym c.moving.ensures ∙ c.if-not-moving.true)) (c.loop.invariant.5 closed)

pub returns-then-not-moving-clause-within : goal.returns-then-not-moving-clause-within
returns-then-not-moving-clause-within g c = (waits-in g.V.Kept.initial_state g.V.Kept.history (attempts_before c.args.queueing (g.C.Chooser.moves_waiters c.args.chooser.now)) c.args.mode c.args.pass.now c.loop.pass c.loop.invariant.2 (rests-now c.loop.pass.own c.loop.invariant.2.goes_on (sym c.moving.ensures ∙ c.if-not-moving.true))).0

pub returns-then-not-moving-clause-places : goal.returns-then-not-moving-clause-places
returns-then-not-moving-clause-places g c = (waits-in g.V.Kept.initial_state g.V.Kept.history (attempts_before c.args.queueing (g.C.Chooser.moves_waiters c.args.chooser.now)) c.args.mode c.args.pass.now c.loop.pass c.loop.invariant.2 (rests-now c.loop.pass.own c.loop.invariant.2.goes_on (sym c.moving.ensures ∙ c.if-not-moving.true))).1
