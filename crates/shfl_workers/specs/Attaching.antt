-- What worker 0 has published of the policies that its trace attaches, and what is left.
use Rattle.std.specs.Prelude.{◌≡◌, ℕ, ◌+◌, ◌≤◌, List, [], ◌∷◌, length}
use Rattle.trace_text.specs.Attachments.{versions_from}
use Rattle.policy_versions.specs.declared.instance.Instance.{Instance}
use Rattle.policy_versions.specs.Places.{RegistryId}
use Rattle.policy_versions.specs.Models.{PublisherModel, IsOf}

-- copies of the registry's policies of these numbers, in order
abbrev pub AreCopies : RegistryId → List ℕ → List Instance → Type 0
AreCopies registry [] [] = Unit {0}
AreCopies registry [] (x ∷ xs) = ⊥
AreCopies registry (p ∷ ps) [] = ⊥
AreCopies registry (p ∷ ps) (x ∷ xs) = (x.which ≡ p) × IsOf registry x × AreCopies registry ps xs

-- the policies `done` were published, in order, and of those of `left` there are copies
pub record Attached (registry : RegistryId) (done left : List ℕ) (publisher : PublisherModel) (copies : List Instance) : Type 0 where
  pub of_registry : publisher.registry ≡ registry
  pub rows : publisher.rows ≡ versions_from 1 done
  pub copied : AreCopies registry left copies
  -- a registry has room for 4,096 publications
  pub few : length done + length left ≤ 4096
