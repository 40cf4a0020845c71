use Rattle.std.proofs.Common.{◌++◌, ◌∙◌, ap, subst, List}
use Rattle.shfl_core.specs.declared.phase.PassState.{PassState}
use Rattle.shfl_line.specs.declared.choosers.Told.{Told}
use Rattle.shfl_line.specs.Policies.{Adds}
use Rattle.shfl_line.proofs.Rounds.{adds-more}
use Rattle.shfl_core.specs.Asking.{end_told, is_last_of_round, question_told}
use Rattle.shfl_arena.proofs.waiting.step_on.Goals as goal

pub returns-clause-row : goal.returns-clause-row
returns-clause-row g c = let choice = c.answer-choice.result in let told = g.C.Chooser.told in (
  choice,
  c.step_found-found.ensures.0,
  subst (λ (l : List Told). Adds (told c.args.chooser.now) (told c.close_round.new.chooser) l)
      (λ j. question_told c.args.anchor.now (c.ask-ask.ensures j) choice ++ end_told ((c.ends_round.ensures ∙ ap (λ (q : PassState). is_last_of_round q.phase q.nap) c.standing-before.ensures) j))
      (adds-more (told c.args.chooser.now) (told c.answer-choice.new.chooser) (told c.close_round.new.chooser) _ _ c.answer-choice.ensures.told c.close_round.ensures.told),
)
