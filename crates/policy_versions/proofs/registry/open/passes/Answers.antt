use Rattle.std.proofs.Common.{None, rules, arith, ◌≡◌, sym, ap, ◌∙◌, length, vec_len, Some, false}
use Rattle.policy_versions.specs.Places.{RegistryId}
use Rattle.policy_versions.specs.Models.{fresh, PassModel}
use Rattle.policy_versions.proofs.Steps.{split_keeps}
use Rattle.policy_versions.proofs.Indexed.{each_snoc}
use Rattle.policy_versions.proofs.registry.open.passes.Goals as goal

pub split_seat-next-requires : goal.split_seat-next-requires
split_seat-next-requires c = let i = c.loop-user.invariant in (
  i.2 ∙ c.requires.table,
  (let e = c.requires.word in omega arith),
  split_keeps _ _ _ (ap (λ m. m.0.spent) (i.3 ∙ c.requires.view)),
)

pub loop-user-preserved : goal.loop-user-preserved
loop-user-preserved c = let i = c.loop-user.invariant in let e = c.split_seat-next.ensures in let id : RegistryId = record { table = c.args.table.now.shared.table_id; declared = c.args.table.now.shared.key.policies.value.items } in
    let p = c.push_reserved.ensures in let left = e.2 in let next = e.4 in let old = c.loop-user.passes in
    let mine = i.3 ∙ c.requires.view in (
      (let l = p.len in let n = i.0 in omega arith),
      (let l = p.capacity in let n = i.1 in omega arith),
      e.0 ∙ i.2,
      left ∙ i.3,
      each_snoc (λ k (x : PassModel). x ≡ fresh id k) old.items c.push_reserved.new.self.items _ p.items
          (λ j. record {
            registry = record { table = (e.3 ∙ (i.2 ∙ c.requires.table)) j; declared = (ap (λ m. m.0.declared) next ∙ ap (λ m. m.0.declared) mine) j };
            user = (let o = old.ok.0 in let n : c.loop-user.user ≡ length old.items = sym i.0 ∙ o in n) j;
            seen = ap (λ m. m.0.seen) next j;
            is_open = false;
            log = (let none : c.new.result ≡ None = c.new.ensures in none) j;
          })
          i.4,
    )

pub returns-clause-fresh : goal.returns-clause-fresh
returns-clause-fresh c = let i = c.loop-user.invariant in let n : vec_len c.loop-user.passes ≡ c.args.users = search rules in let o = c.loop-user.passes.ok.0 in
    λ k h. let e = i.4 k (omega arith) in e.1 ∙ ap Some e.2
