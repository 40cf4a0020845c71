use Rattle.std.proofs.Common.{arith, ◌≡◌, ◌+◌, ◌%◌, ap, ◌∙◌, length}
use Rattle.policy_versions.specs.Places.{registry_of}
use Rattle.policy_versions.specs.declared.place.Place.{Place}
use Rattle.policy_versions.specs.declared.place.PlaceId.{PlaceId}
use Rattle.policy_versions.proofs.Indexed.{at_place, some_and}
use Rattle.policy_versions.proofs.registry.Publisher.try_publish.Goals as goal

pub replace-requires-clause-right : goal.replace-requires-clause-right
replace-requires-clause-right g c = let n = (c.len.result + 1) % 8 in let at = c.registry.invariant.4 n (omega arith) in
    let is : c.index-place.result.now.counted ≡ at.0.counted = ap (λ (p : Place). p.counted) (at_place c.registry.inside.places.items n at.0 c.index-place.result.now at.1 c.index-place.ensures) in
    let same : n ≡ (length c.args.self.now.rows + 1) % 8 = ap (λ k. (k + 1) % 8) (c.len.ensures ∙ (c.self.inside.rows.ok.0 ∙ ap (λ m. length m.rows) c.self.view_is)) in
    some_and _ _ c.turn.new.right.claim (λ x e. (ap registry_of (e ∙ is) ∙ (at.2 ∙ c.registry.view_is), ap (λ (s : PlaceId). s.index) (e ∙ is) ∙ (at.3 ∙ same))) c.in-Ok.ensures.gained
