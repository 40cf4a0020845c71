use Rattle.std.proofs.Common.{◌≡◌, ◌∷◌, ℕ, inl, sym, refl, ap, ◌∙◌, subst}
use Rattle.shfl_line.specs.declared.choosers.Told.TheVariants.{Begun}
use Rattle.policy_versions.specs.Rule.{IsAmong, word_of}
use Rattle.policy_versions.specs.Models.{PassModel}
use Rattle.policy_versions.specs.Places.{RegistryId}
use Rattle.policy_versions.specs.Choosing.{IsHeldBy, IsUseBy, is_open}
use Rattle.policy_versions.specs.Noting.{IsLogOf, IsNotedLast}
use Rattle.policy_versions.proofs.Noted.{follows_begun, is_noted_last, log_later, log_under}
use Rattle.policy_versions.proofs.chooser.UsingChooserChooser.begin.Goals as goal

pub invariant_of-self : goal.invariant_of-self
invariant_of-self g c =
    let i = c.self.invariant in let reg = c.self.inside.registry.now in let pass = c.self.inside.pass.now in
    let here : IsUseBy reg pass.user pass.seen c.in-Some.held = subst (IsHeldBy reg pass.user pass.seen) c.in-Some.is i.2 in
    subst (λ (m : PassModel). (m.registry.table ≡ reg.table) × (m.is_open ≡ is_open c.self.inside.held) × IsHeldBy reg m.user m.seen c.self.inside.held
    × IsLogOf reg.declared m.seen c.note.new.self.log × IsNotedLast c.self.inside.held c.note.new.self.log) (sym c.note.ensures.same) (
      i.0,
      i.1,
      i.2,
      log_under reg pass.user pass.seen c.in-Some.held here Begun tt _ _ _ i.3 (follows_begun c.in-Some.held pass.log) c.noted.ensures c.note.ensures.noted,
      subst (λ h. IsNotedLast h c.note.new.self.log) (sym c.in-Some.is)
          (is_noted_last c.in-Some.held Begun pass.log c.note.new.self.log _ c.noted.ensures c.note.ensures.noted),
    )

pub invariant_of-self-2 : goal.invariant_of-self-2
invariant_of-self-2 g c =
    let i = c.self.invariant in let reg = c.self.inside.registry.now in let pass = c.self.inside.pass.now in
    let e = c.enter-held.ensures in let held = c.enter-held.result in let now = c.enter-held.new.self in
    let word : ℕ = word_of held.version held.which in
    let here : IsUseBy reg now.user now.seen held = record {
      of_registry = e.of_registry;
      of_user = e.of_user ∙ sym e.same.1;
      loaded = subst (IsAmong word) (sym e.current.1) (inl refl);
      newest = e.newest_so_far;
      version = e.version;
    } in
    let before : IsLogOf reg.declared pass.seen now.log = subst (IsLogOf reg.declared pass.seen) (sym e.log) i.3 in
    let later : IsLogOf reg.declared now.seen now.log = subst (λ l. IsLogOf reg.declared l now.log) (sym e.current.1)
    (log_later reg.declared pass.seen (word ∷ e.current.0) now.log before) in
    subst (λ (m : PassModel). (m.registry.table ≡ reg.table) × (m.is_open ≡ is_open c.replace-old.new.self) × IsHeldBy reg m.user m.seen c.replace-old.new.self
    × IsLogOf reg.declared m.seen c.note-2.new.self.log × IsNotedLast c.replace-old.new.self c.note-2.new.self.log) (sym c.note-2.ensures.same) (
      ap (λ (r : RegistryId). r.table) e.same.0 ∙ i.0,
      e.open ∙ ap is_open (sym c.replace-old.ensures.after),
      subst (IsHeldBy reg now.user now.seen) (sym c.replace-old.ensures.after) here,
      log_under reg now.user now.seen held here Begun tt _ _ _ later (follows_begun held now.log) c.noted-2.ensures c.note-2.ensures.noted,
      subst (λ h. IsNotedLast h c.note-2.new.self.log) (sym c.replace-old.ensures.after)
          (is_noted_last held Begun now.log c.note-2.new.self.log _ c.noted-2.ensures c.note-2.ensures.noted),
    )
