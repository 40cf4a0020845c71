use Rattle.std.proofs.Common.{◌≡◌, Some, sym, ap, ◌∙◌, subst}
use Rattle.shfl_line.specs.declared.choosers.Told.{Told}
use Rattle.shfl_line.specs.declared.choosers.Told.TheVariants.{Answered}
use Rattle.shfl_line.specs.Policies.{should_answer}
use Rattle.policy_versions.specs.Models.{PassModel}
use Rattle.policy_versions.specs.Choosing.{IsHeldBy, IsUseBy, is_open, moved_up}
use Rattle.policy_versions.specs.Noting.{IsLogOf, IsNotedLast}
use Rattle.policy_versions.proofs.Noted.{follows_last, is_noted_last, log_under}
use Rattle.policy_versions.proofs.chooser.UsingChooserChooser.should.Goals as goal

pub invariant_of-self-2 : goal.invariant_of-self-2
invariant_of-self-2 c =
    let i = c.self.invariant in let reg = c.self.inside.registry.now in let pass = c.self.inside.pass.now in
    let here : IsUseBy reg pass.user pass.seen c.in-Some.held = subst (IsHeldBy reg pass.user pass.seen) c.in-Some.is i.2 in
    let told : Told = Answered (should_answer c.args.anchor.now c.args.waiter.now c.args.batch c.should-answer.result) in
    let last : IsNotedLast (Some c.in-Some.held) pass.log = subst (λ h. IsNotedLast h pass.log) c.in-Some.is i.4 in
    subst (λ (m : PassModel). (m.registry.table ≡ reg.table) × (m.is_open ≡ is_open c.self.inside.held) × IsHeldBy reg m.user m.seen c.self.inside.held
    × IsLogOf reg.declared m.seen c.note.new.self.log × IsNotedLast c.self.inside.held c.note.new.self.log) (sym c.note.ensures.same) (
      i.0,
      i.1,
      i.2,
      log_under reg pass.user pass.seen c.in-Some.held here told
          (c.should-answer.ensures.answer ∙ ap (λ o. moved_up o c.args.anchor.now c.args.waiter.now c.args.batch) (ap Some c.running.ensures ∙ sym c.policy.ensures))
          _ _ _ i.3 (follows_last c.in-Some.held told pass.log last) c.noted.ensures c.note.ensures.noted,
      subst (λ h. IsNotedLast h c.note.new.self.log) (sym c.in-Some.is)
          (is_noted_last c.in-Some.held told pass.log c.note.new.self.log _ c.noted.ensures c.note.ensures.noted),
    )
