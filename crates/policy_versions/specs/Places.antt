-- An instance that may stand in a place, and the places of a registry.
use Rattle.std.specs.Prelude.{◌≡◌, List, slice_get, Some}
use Rattle.atomic_table.specs.Seated.{TableId}
use Rattle.shfl_policy.specs.Policies.{PolicyModel}
use Rattle.policy_versions.specs.declared.instance.Instance.{Instance}
use Rattle.policy_versions.specs.declared.place.PlaceId.{PlaceId}

-- the instance equals the declared policy that it names
abbrev pub IsDeclared : PlaceId → Instance → Type 0
IsDeclared id x = slice_get id.origin.value.key.policies.value.items x.which ≡ Some x.policy

-- which registry it is: its table, and its declared policies
pub record RegistryId : Type 0 where
  pub table : TableId
  pub declared : List PolicyModel

abbrev pub registry_at : TableId → List PolicyModel → RegistryId
registry_at table declared = record { table = table; declared = declared }

-- the registry of a place
abbrev pub registry_of : PlaceId → RegistryId
registry_of id = registry_at id.origin.value.table_id id.origin.value.key.policies.value.items
