-- A registry and its parts, as contracts see them.
use Rattle.std.specs.Prelude.{◌≡◌, ℕ, ◌+◌, ◌<◌, ◌≤◌, Bool, false, List, [], ◌∷◌, ◌++◌, length, map, slice_get, Option, Some, None, IfSome}
use Rattle.round_log.specs.declared.log.Note.{Note}
use Rattle.policy_versions.specs.declared.instance.Instance.{Instance}
use Rattle.policy_versions.specs.declared.place.Place.{Place}
use Rattle.policy_versions.specs.Places.{RegistryId, registry_of}
use Rattle.policy_versions.specs.Rule.{IsAmong, VERSIONS, version_of, which_of, word_of}

-- a user's pass: the words that it has loaded, the last one first, whether a use is open, and what its log keeps
pub record PassModel : Type 0 where
  pub registry : RegistryId
  pub user : ℕ
  pub seen : List ℕ
  pub is_open : Bool
  pub log : Option (List Note)

-- the publisher: a row for each publication, in order
pub record PublisherModel : Type 0 where
  pub registry : RegistryId
  pub rows : List (ℕ × ℕ)

-- a use of a version, whose policy is the declared one at which
pub record UsingModel : Type 0 where
  pub registry : RegistryId
  pub user : ℕ
  pub version : ℕ
  pub which : ℕ

abbrev pub fresh : RegistryId → ℕ → PassModel
fresh registry user = record { registry = registry; user = user; seen = []; is_open = false; log = None }

-- the passes of so many users, by number
abbrev pub AreFresh : RegistryId → ℕ → List PassModel → Type 0
AreFresh registry users passes = (i : ℕ) → i < users → slice_get passes i ≡ Some (fresh registry i)

-- the instance is a copy of one of the registry's declared policies
abbrev pub IsOf : RegistryId → Instance → Type 0
IsOf registry x = slice_get registry.declared x.which ≡ Some x.policy

-- so many users a registry may have, as many as a lock has passes
abbrev pub most_users : ℕ
most_users = 65535

-- one publication more
abbrev pub with_row : PublisherModel → ℕ → ℕ → PublisherModel
with_row publisher version which = record publisher { rows = publisher.rows ++ (version, which) ∷ [] }

-- the version that the next publication has
abbrev pub next_version : PublisherModel → ℕ
next_version publisher = length publisher.rows + 1

-- the words that were current, in order
abbrev pub words_of : List (ℕ × ℕ) → List ℕ
words_of rows = 0 ∷ map (λ r. word_of r.0 r.1) rows

-- versions begin at 1 and rise by one
abbrev pub AreRows : List (ℕ × ℕ) → Type 0
AreRows rows = (i : ℕ) (r : ℕ × ℕ) → slice_get rows i ≡ Some r → r.0 ≡ i + 1

-- the pass loaded words, last of all this one
abbrev pub LoadedLast : List ℕ → List ℕ → ℕ → Type 0
LoadedLast old new word = (between : List ℕ) × (new ≡ word ∷ between ++ old)

-- the version isn't below one that was seen
abbrev pub IsNewest : List ℕ → ℕ → Type 0
IsNewest seen version = (k : ℕ) → IsAmong k seen → version_of k ≤ version

-- the pass and the use after one load
pub record Tries (old new : PassModel) (result : Option UsingModel) : Type 0 where
  pub word : ℕ
  pub seen : new.seen ≡ word ∷ old.seen
  pub names : IfSome result (λ u. (u.version ≡ version_of word) × (u.which ≡ which_of word))
  pub newest : IsNewest old.seen (version_of word)

-- so many publications can be counted that a version fits below its policy's place
abbrev pub IsVersion : ℕ → Type 0
IsVersion version = version < VERSIONS

-- the pair is the row of its version; version 0 is the first policy
abbrev pub IsRow : List (ℕ × ℕ) → ℕ → ℕ → Type 0
IsRow rows version which = slice_get ((0, 0) ∷ rows) version ≡ Some (version, which)

-- the eight places of a registry, by number
abbrev pub ArePlaces : RegistryId → List Place → Type 0
ArePlaces registry places = (i : ℕ) → i < 8 → (p : Place) × (slice_get places i ≡ Some p) × (registry_of p.counted ≡ registry) × (p.counted.index ≡ i)

-- the pass is of the registry, whose table alone says which it is, and no use of it is open
abbrev pub IsClosed : RegistryId → PassModel → Type 0
IsClosed registry pass = (pass.registry.table ≡ registry.table) × (pass.is_open ≡ false)
