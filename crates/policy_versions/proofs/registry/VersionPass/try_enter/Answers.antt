use Rattle.std.proofs.Common.{arith, ◌≡◌, ℕ, ◌%◌, sym, refl, ap, ◌∙◌, slice_get}
use Rattle.policy_versions.specs.Places.{registry_of}
use Rattle.policy_versions.specs.declared.place.PlaceId.{PlaceId}
use Rattle.policy_versions.specs.declared.place.Place.{Place}
use Rattle.policy_versions.proofs.Steps.{load_keeps}
use Rattle.policy_versions.proofs.Indexed.{at_place}
use Rattle.policy_versions.proofs.registry.VersionPass.try_enter.Goals as goal

pub load-word-requires : goal.load-word-requires
load-word-requires c = let i = c.registry.invariant in let same : c.args.self.now.registry.table ≡ c.args.registry.now.table = c.requires.registry in (
  ap (λ m. m.registry.table) c.self.view_is ∙ (same ∙ sym (ap (λ m. m.table) c.registry.view_is)),
  omega arith,
  load_keeps _ _ _ _ _ c.self.invariant.1,
)

module _ (c : goal.After-self-1) where
  the_place : (p : Place) × (c.in-Ok.reading.claim.tag ≡ p.counted) × (registry_of p.counted ≡ c.args.registry.now) × (p.counted.index ≡ c.load-word.result % 4294967296 % 8)
  the_place = let i = c.registry.invariant in let at = i.4 (c.load-word.result % 4294967296 % 8) (omega arith) in (
    at.0,
    c.in-Ok.ensures.reading ∙ ap (λ (p : Place). p.counted) (at_place c.registry.inside.places.items (c.load-word.result % 4294967296 % 8) at.0 c.index.result.now at.1 c.index.ensures),
    at.2 ∙ c.registry.view_is,
    at.3,
  )

pub invariant_of-result : goal.invariant_of-result
invariant_of-result c = let p = the_place c in let shown = c.if-not-shows.ensures.declared refl in (
  omega arith,
  ap (λ (s : PlaceId). s.index) p.1 ∙ p.3,
  (
    shown.0,
    shown.1,
    ap (λ (n : ℕ). slice_get (registry_of c.in-Ok.reading.claim.tag).declared n) (sym shown.2) ∙ shown.3,
  ),
)

pub returns-clause-names : goal.returns-clause-names
returns-clause-names c = let p = the_place c in (ap registry_of p.1 ∙ p.2, ap (λ m. m.user) c.self.view_is)
