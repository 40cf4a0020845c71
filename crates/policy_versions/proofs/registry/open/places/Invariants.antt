use Rattle.std.proofs.Common.{◌≡◌, ℕ, ◌<◌, ◌≤◌, vec_len, vec_capacity, length, slice_get, Some}
use Rattle.policy_versions.specs.Places.{registry_of}
use Rattle.policy_versions.specs.declared.place.Place.{Place}
use Rattle.policy_versions.proofs.registry.open.places.Given as goal

abbrev pub invariant-loop-index : goal.invariant-loop-index
invariant-loop-index l = (vec_len l.places ≡ l.index) × (8 ≤ vec_capacity l.places)
    × ((i : ℕ) → i < length l.places.items → (p : Place) × (slice_get l.places.items i ≡ Some p) × ((registry_of p.counted ≡ record { table = l.table.shared.table_id; declared = l.table.shared.key.policies.value.items }) × (p.counted.index ≡ i)))
