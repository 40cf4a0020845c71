use Rattle.std.proofs.Common.{◌≡◌, length, None, refl, sym, ap, ◌∙◌, arith}
use Rattle.std.proofs.lemmas.List.{ext_get_or}
use Rattle.shfl_policy.specs.Policies.{PolicyModel}
use Rattle.policy_versions.specs.Places.{RegistryId}
use Rattle.policy_versions.proofs.registry.Registry.declares_as.Goals as goal

pub returns : goal.returns
returns c =
    let nobody : PolicyModel = record { name = 0; should = None; skip = None } in
    let mine = ap length (sym c.self.invariant.0 ∙ ap (λ (r : RegistryId). r.declared) c.self.view_is) in
    let its = ap length (sym c.other.invariant.0 ∙ ap (λ (r : RegistryId). r.declared) c.other.view_is) in
    let long : length c.args.self.now.declared ≡ length c.args.other.now.declared =
    (let a = c.len.ensures in let b = c.len-2.ensures in let same = c.if-len.false in let ok = c.self.inside.declared.ok.0 in let also = c.other.inside.declared.ok.0 in
    omega (arith, mine, its, a, b, same, ok, also)) in (
      (λ _. ext_get_or nobody c.args.self.now.declared c.args.other.now.declared long
          (λ k lt. c.loop-place.invariant k nobody (let past = c.loop-place-test.false in let end = c.len-place-end.ensures in let ok = c.self.inside.declared.ok.0 in
          omega (arith, lt, past, end, ok, mine)))),
      (λ _. refl),
    )
