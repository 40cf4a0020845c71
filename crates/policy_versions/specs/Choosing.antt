-- A chooser that answers by a version of live policies.
use Rattle.std.specs.Prelude.{◌≡◌, ℕ, List, ◌∷◌, Bool, true, false, Option, Some, None, slice_get}
use Rattle.shfl_line.specs.declared.words.Attr.{Attr}
use Rattle.shfl_policy.specs.Policies.{PolicyModel, skip_of, should_of}
use Rattle.atomic_table.specs.Seated.{TableId}
use Rattle.policy_versions.specs.Places.{RegistryId}
use Rattle.round_log.specs.declared.log.Note.{Note}
use Rattle.policy_versions.specs.Rule.{IsAmong, word_of}
use Rattle.policy_versions.specs.Models.{PassModel, UsingModel, IsNewest, IsVersion}

-- the registry, the name of the lent pass and what it is now, the use that a round has, and whether passes queue at once for it
pub record ChooserModel : Type 0 where
  pub registry : RegistryId
  pub name : ℕ
  pub pass : PassModel
  pub held : Option UsingModel
  pub moves : Bool

abbrev pub is_open : Option UsingModel → Bool
is_open None = false
is_open (Some u) = true

-- the use is of the registry and of the user, who has loaded these words: its version's, and none of a newer one
pub record IsUseBy (registry : RegistryId) (user : ℕ) (seen : List ℕ) (u : UsingModel) : Type 0 where
  pub of_registry : u.registry ≡ registry
  pub of_user : u.user ≡ user
  pub loaded : IsAmong (word_of u.version u.which) seen
  pub newest : IsNewest seen u.version
  pub version : IsVersion u.version

abbrev pub IsHeldBy : RegistryId → ℕ → List ℕ → Option UsingModel → Type 0
IsHeldBy registry user seen None = Unit {0}
IsHeldBy registry user seen (Some u) = IsUseBy registry user seen u

-- which table it is
abbrev pub table_numbers : TableId → List ℕ
table_numbers t = t.words ∷ t.slots ∷ t.views_name ∷ t.atom ∷ t.block ∷ t.offset ∷ t.slot_names

-- the registry and the pass's user
abbrev pub home_of : ChooserModel → List ℕ
home_of c = c.name ∷ c.pass.user ∷ table_numbers c.registry.table

-- the policy that a round is answered by: the declared one that its use names
abbrev pub policy_of : ChooserModel → Option PolicyModel
policy_of c = elim c.held [ None ↦ None | Some u ↦ slice_get c.registry.declared u.which ]

-- without a policy the answer is no
abbrev pub skipped : Option PolicyModel → Attr → ℕ → Bool
skipped None anchor batch = false
skipped (Some p) anchor batch = skip_of p anchor batch

abbrev pub moved_up : Option PolicyModel → Attr → Attr → ℕ → Bool
moved_up None anchor waiter batch = false
moved_up (Some p) anchor waiter batch = should_of p anchor waiter batch

-- the chooser, whose pass has another log
abbrev pub with_log : ChooserModel → Option (List Note) → ChooserModel
with_log c log = record c { pass = record c.pass { log = log } }
