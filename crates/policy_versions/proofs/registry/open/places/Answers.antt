use Rattle.std.proofs.Common.{rules, arith, ◌≡◌, sym, ap, ◌∙◌, vec_len}
use Rattle.policy_versions.specs.Places.{registry_of, RegistryId}
use Rattle.policy_versions.specs.declared.place.Place.{Place}
use Rattle.policy_versions.specs.declared.place.PlaceId.{PlaceId}
use Rattle.policy_versions.proofs.Indexed.{each_snoc}
use Rattle.policy_versions.proofs.registry.open.places.Goals as goal

pub loop-index-preserved : goal.loop-index-preserved
loop-index-preserved c = let i = c.loop-index.invariant in let p = c.push_reserved.ensures in let old = c.loop-index.places in let id : RegistryId = record { table = c.args.table.now.shared.table_id; declared = c.args.table.now.shared.key.policies.value.items } in (
  (let l = p.len in let n = i.0 in omega arith),
  (let l = p.capacity in let n = i.1 in omega arith),
  each_snoc (λ k (x : Place). (registry_of x.counted ≡ id) × (x.counted.index ≡ k)) old.items c.push_reserved.new.self.items _ p.items
      (ap registry_of c.new.ensures ∙ search rules, ap (λ (s : PlaceId). s.index) c.new.ensures ∙ (sym i.0 ∙ old.ok.0))
      i.2,
)

pub returns : goal.returns
returns c = let i = c.loop-index.invariant in let n : vec_len c.loop-index.places ≡ 8 = search rules in let o = c.loop-index.places.ok.0 in (
  n,
  (λ k h. let e = i.2 k (omega arith) in (e.0, e.1, e.2.0, e.2.1)),
)
