use Rattle.std.proofs.Common.{◌≡◌, Option, None, Some, true, refl, ℕ, sym, ap, ◌∙◌}
use Rattle.doc_text.specs.Words.{◌>>?◌}
use Rattle.shfl_sched.specs.Lines.{pass_in}
use Rattle.shfl_sched.specs.Schedules.{is_act_of}
use Rattle.shfl_sched.proofs.Wording.{of_pass}
use Rattle.shfl_sched.proofs.ActsAt.{at_act, at_none}
use Rattle.shfl_sched.proofs.events.event_of.Goals as goal

pub returns-in_err-act : goal.returns-in_err-act
returns-in_err-act c = c.from_residual.ensures ∙ sym (at_none c.args.form c.args.passes c.args.text.now c.in_err-act.ensures)

pub returns-in_err-pass : goal.returns-in_err-pass
returns-in_err-pass c =
    let none : pass_in c.args.passes c.in_ok-act.rest.now ≡ None = sym c.pass_of.ensures ∙ c.in_err-pass.was in
    c.from_residual-in_err-pass.ensures
    ∙ sym (at_act c.args.form c.args.passes c.in_ok-act.act c.in_ok-act.rest.now c.args.text.now c.in_ok-act.ensures ∙ ap (λ (o : Option ℕ). o >>? of_pass c.args.form c.in_ok-act.act) none)

pub returns : goal.returns
returns c =
    let some : pass_in c.args.passes c.in_ok-act.rest.now ≡ Some c.in_ok-pass.pass = sym c.pass_of.ensures ∙ c.in_ok-pass.was in
    let allowed : is_act_of c.args.form c.in_ok-act.act ≡ true = sym c.is_act_of.ensures ∙ c.if-not-is_act_of.false in
    sym (at_act c.args.form c.args.passes c.in_ok-act.act c.in_ok-act.rest.now c.args.text.now c.in_ok-act.ensures ∙ ap (λ (o : Option ℕ). o >>? of_pass c.args.form c.in_ok-act.act) some ∙ rw allowed refl)
