use Rattle.std.proofs.Common.{Some, sym, ap, ◌∙◌, subst}
use Rattle.shfl_line.specs.declared.choosers.Told.TheVariants.{Ended}
use Rattle.policy_versions.specs.Models.{PassModel}
use Rattle.policy_versions.specs.Choosing.{IsHeldBy, IsUseBy, is_open}
use Rattle.policy_versions.specs.Noting.{IsLogOf, IsNotedLast}
use Rattle.policy_versions.proofs.Noted.{follows_last, log_under}
use Rattle.policy_versions.proofs.chooser.UsingChooserChooser.end.Goals as goal

pub invariant_of-self-2 : goal.invariant_of-self-2
invariant_of-self-2 c =
    let i = c.self.invariant in let reg = c.self.inside.registry.now in let pass = c.self.inside.pass.now in
    let here : IsUseBy reg pass.user pass.seen c.in-Some.held = subst (IsHeldBy reg pass.user pass.seen) (sym c.take.ensures.value ∙ c.in-Some.is) i.2 in
    let last : IsNotedLast (Some c.in-Some.held) pass.log = subst (λ h. IsNotedLast h pass.log) (sym c.take.ensures.value ∙ c.in-Some.is) i.4 in
    let noted = c.note.ensures.same in let left = c.leave.ensures in (
      ap (λ (m : PassModel). m.registry.table) left ∙ (ap (λ (m : PassModel). m.registry.table) noted ∙ i.0),
      ap (λ (m : PassModel). m.is_open) left ∙ ap is_open (sym c.take.ensures.after),
      subst (IsHeldBy reg c.leave.new.self.user c.leave.new.self.seen) (sym c.take.ensures.after) tt,
      subst (λ (m : PassModel). IsLogOf reg.declared m.seen m.log) (sym left)
          (subst (λ (m : PassModel). IsLogOf reg.declared m.seen c.note.new.self.log) (sym noted)
          (log_under reg pass.user pass.seen c.in-Some.held here Ended tt _ _ _ i.3 (follows_last c.in-Some.held Ended pass.log last)
          c.noted.ensures c.note.ensures.noted)),
      subst (λ h. IsNotedLast h c.leave.new.self.log) (sym c.take.ensures.after) tt,
    )
