use Rattle.std.proofs.Common.{◌≡◌, ◌⊎◌, ℕ, false, List, [], ◌∷◌, None, Some, Option, inl, inr, ⊎_elim, refl, sym, ap, ◌∙◌, subst}
use Rattle.round_log.specs.declared.log.Note.{Note}
use Rattle.round_log.specs.Logs.{told_in, InRounds}
use Rattle.trace_text.specs.Histories.{made_in, of_worker}
use Rattle.policy_versions.specs.Models.{PassModel, UsingModel}
use Rattle.policy_versions.specs.Choosing.{is_open}
use Rattle.shfl_workers.specs.Asked.{AskInTurn}
use Rattle.round_log.proofs.WholeRounds.{in_rounds_lost}
use Rattle.shfl_workers.proofs.worker.work.Goals as goal

not_held : (o : Option UsingModel) → is_open o ≡ false → o ≡ None
not_held None e = refl
not_held (Some u) e = absurd (cc)

abbrev first : List ℕ → ℕ
first [] = 0
first (x ∷ xs) = x

-- the log that the lent pass has at the end: the chooser's, or none
came_back : (now : PassModel) (log : Option (List Note)) (given : (m : PassModel) × (m ≡ now)) → (now.log ≡ log) ⊎ (now.log ≡ None) → (given.0.log ≡ log) ⊎ (given.0.log ≡ None)
came_back now log given h = ⊎_elim (λ e. inl (ap (λ (m : PassModel). m.log) given.1 ∙ e)) (λ e. inr (ap (λ (m : PassModel). m.log) given.1 ∙ e)) h

pub returns-clause-asked : goal.returns-clause-asked
returns-clause-asked g c =
    let D = g.D.SharedDir in let after = c.take_turns.new.chooser in let done = c.done-user in
    let held = not_held after.held (c.take_turns.ensures.in_round (ap is_open c.new-chooser.ensures.closed)) in
    let name = done.ensures.pass ∙ (ap first c.take_turns.ensures.home ∙ c.new-chooser.ensures.pass.0) in
    let back = came_back done.result.now after.pass.log (c.user-1.given.0, c.user-1.given.1 (sym name)) (done.ensures.noted held) in (
      told_in after.pass.log,
      subst (λ (m : PassModel). AskInTurn D.asks (of_worker (D.worker c.args.pass.now) (made_in c.args.calls.now)) c.args.pass.now c.take_turns.new.pass
          (told_in m.log) (told_in after.pass.log)) c.new-chooser.ensures.pass.1 c.take_turns.ensures.asked,
      ⊎_elim (λ e. inl (ap told_in e)) (λ e. inr e) back,
    )

pub returns-clause-whole : goal.returns-clause-whole
returns-clause-whole g c =
    let after = c.take_turns.new.chooser in let before = told_in c.args.user.now.log in let done = c.done-user in
    let held = not_held after.held (c.take_turns.ensures.in_round (ap is_open c.new-chooser.ensures.closed)) in
    let name = done.ensures.pass ∙ (ap first c.take_turns.ensures.home ∙ c.new-chooser.ensures.pass.0) in
    let back = came_back done.result.now after.pass.log (c.user-1.given.0, c.user-1.given.1 (sym name)) (done.ensures.noted held) in
    let total : InRounds before (told_in after.pass.log) =
    subst (λ (m : PassModel). InRounds (told_in m.log) (told_in after.pass.log)) c.new-chooser.ensures.pass.1 c.take_turns.ensures.whole in
    ⊎_elim (λ e. subst (λ (l : Option _). InRounds before (told_in l)) (sym e) total)
    (λ e. subst (λ (l : Option _). InRounds before (told_in l)) (sym e) (in_rounds_lost before _ total)) back
