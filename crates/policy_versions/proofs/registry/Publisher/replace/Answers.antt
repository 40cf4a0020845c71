use Rattle.std.proofs.Common.{arith, ◌≡◌, ℕ, ◌+◌, ◌<◌, ◌∷◌, ◌++◌, [], sym, ap, ◌∙◌, subst, length}
use Rattle.policy_versions.specs.Rule.{version_of, which_of, word_of}
use Rattle.policy_versions.specs.Places.{RegistryId}
use Rattle.policy_versions.specs.Models.{words_of, AreRows}
use Rattle.policy_versions.proofs.Steps.{raise_keeps}
use Rattle.policy_versions.proofs.Indexed.{rows_more, words_more, words_long, get_within}
use Rattle.policy_versions.proofs.registry.Publisher.replace.Goals as goal

pub store-requires : goal.store-requires
store-requires c = let i = c.self.invariant in let r = c.registry.invariant in let m = c.self.view_is in
    let rows = ap (λ m. length m.rows) m in let few = c.requires.room in let n = c.len.ensures in
    let within = get_within c.args.registry.now.declared c.args.instance.which c.args.instance.policy c.requires.instance in (
      ap (λ m. m.registry.table) m ∙ (ap (λ (m : RegistryId). m.table) c.requires.registry ∙ sym (ap (λ m. m.table) c.registry.view_is)),
      omega arith,
      raise_keeps _ _ _ _ _ _ i.0
          (let small : c.len.result + 1 < 4294967296 = omega arith in let e : version_of (word_of (c.len.result + 1) c.args.instance.which) ≡ c.len.result + 1 = omega arith in e ∙ (ap (λ k. k + 1) (n ∙ c.self.inside.rows.ok.0) ∙ sym (ap length i.3 ∙ words_long c.self.inside.rows.items)))
          (let small : c.len.result + 1 < 4294967296 = omega arith in let e : which_of (word_of (c.len.result + 1) c.args.instance.which) ≡ c.args.instance.which = omega arith in
          subst (λ d. which_of (word_of (c.len.result + 1) c.args.instance.which) < length d) (sym (ap (λ m. m.declared) c.registry.view_is)) (subst (λ w. w < length c.args.registry.now.declared) (sym e) within)),
    )

pub invariant_of-self : goal.invariant_of-self
invariant_of-self c = let i = c.self.invariant in let e = c.store.ensures.2 in let p = c.push_reserved.ensures in let row : ℕ × ℕ = (c.len.result + 1, c.args.instance.which) in let few = c.requires.room in
    let rows = ap (λ m. length m.rows) c.self.view_is in (
      ap (λ v. v.publisher) e.0 ∙ i.0,
      ap (λ v. v.spent) e.0 ∙ i.1,
      e.1 ∙ i.2,
      ap (λ v. v.words) e.0 ∙ (ap (λ l. l ++ word_of row.0 row.1 ∷ []) i.3 ∙ (sym (words_more c.self.inside.rows.items row) ∙ sym (ap words_of p.items))),
      subst AreRows (sym p.items) (rows_more c.self.inside.rows.items row i.4 (ap (λ k. k + 1) (c.len.ensures ∙ c.self.inside.rows.ok.0))),
      (let l = p.len in let n = c.len.ensures in omega arith),
      (let l = p.capacity in let n = i.6 in omega arith),
    )
