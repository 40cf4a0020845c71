use Rattle.std.proofs.Common.{◌≡◌, ℕ, ◌<◌, ◌≤◌, vec_len, vec_capacity, length, slice_get, Some}
use Rattle.policy_versions.specs.Models.{fresh, PassModel}
use Rattle.policy_versions.proofs.registry.open.passes.Given as goal

abbrev pub invariant-loop-user : goal.invariant-loop-user
invariant-loop-user l = (vec_len l.passes ≡ l.user) × (l.users ≤ vec_capacity l.passes) × (l.seat.table_id ≡ l.initial.seat.table_id) × (l.seat.me ≡ l.initial.seat.me)
    × ((i : ℕ) → i < length l.passes.items → (p : PassModel) × (slice_get l.passes.items i ≡ Some p) × (p ≡ fresh (record { table = l.table.shared.table_id; declared = l.table.shared.key.policies.value.items }) i))
