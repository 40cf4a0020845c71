use Rattle.std.proofs.Common.{◌≡◌, false, sym, ap, ◌∙◌, ◌++◌, subst, List}
use Rattle.shfl_core.specs.declared.phase.PassState.{PassState}
use Rattle.shfl_core.specs.Waiting.{ask}
use Rattle.shfl_core.specs.Asking.{IsOpenInRounds, end_told, is_last_of_round, opens_round, question_told}
use Rattle.shfl_line.specs.declared.choosers.Told.{Told}
use Rattle.shfl_line.specs.Policies.{Adds}
use Rattle.shfl_line.proofs.Rounds.{adds-more}
use Rattle.shfl_table.specs.PassModel.{PassModel}
use Rattle.shfl_table.proofs.OpenRounds.{open-step}
use Rattle.shfl_table.proofs.waiting.step_on.Goals as goal

pub returns-clause-home : goal.returns-clause-home
returns-clause-home g c = c.close_round.ensures.home ∙ c.answer-choice.ensures.home

pub returns-clause-in_round : goal.returns-clause-in_round
returns-clause-in_round g c still = let p = c.args.pass.now in let rules = p.board.rules in let choice = c.answer-choice.result in
    let row = (c.advance-outcome.ensures.row c.requires.moving).0 in
    let last : c.ends_round.result ≡ is_last_of_round p.own.phase p.own.nap = c.ends_round.ensures ∙ (λ j. is_last_of_round (c.phase-before.ensures j) (c.nap-nap.ensures j)) in
    let kept : opens_round (ask rules p.own) ≡ false → g.C.Chooser.in_round c.answer-choice.new.chooser ≡ g.C.Chooser.in_round c.args.chooser.now = λ e. c.answer-choice.ensures.in_round (ap opens_round c.ask-ask.ensures.answer ∙ e) in
    subst (λ (q : PassState). IsOpenInRounds (g.C.Chooser.in_round c.close_round.new.chooser) q) (sym (ap (λ (z : PassModel _). z.own) row.row))
    (open-step rules row.found choice (g.C.Chooser.in_round c.args.chooser.now) (g.C.Chooser.in_round c.answer-choice.new.chooser) (g.C.Chooser.in_round c.close_round.new.chooser) p.own kept
    (λ e. c.close_round.ensures.ended (last ∙ e)) (λ e. c.close_round.ensures.going_on (last ∙ e)) still)

pub returns-clause-row : goal.returns-clause-row
returns-clause-row g c = let p = c.args.pass.now in let choice = c.answer-choice.result in let told = g.C.Chooser.told in (
  choice,
  (c.advance-outcome.ensures.row c.requires.moving).0,
  subst (λ (l : List Told). Adds (told c.args.chooser.now) (told c.close_round.new.chooser) l)
      (λ j. question_told c.args.anchor.now (c.ask-ask.ensures.answer j) choice ++ end_told ((c.ends_round.ensures ∙ (λ i. is_last_of_round (c.phase-before.ensures i) (c.nap-nap.ensures i))) j))
      (adds-more (told c.args.chooser.now) (told c.answer-choice.new.chooser) (told c.close_round.new.chooser) _ _ c.answer-choice.ensures.told c.close_round.ensures.told),
)

pub park_or_wake-requires : goal.park_or_wake-requires
park_or_wake-requires g c = record { board = ap (λ (z : PassModel _). z.board) ((c.advance-outcome.ensures.row c.requires.moving).0).row ∙ c.requires.board }
