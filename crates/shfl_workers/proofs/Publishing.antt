-- What worker 0 has published behind its last call.
use Rattle.std.proofs.Common.{◌≡◌, ℕ, ◌<◌, List, [], ◌∷◌, length, Option, Some, None, IsSome, IsSomeAnd, All, refl, ap, ◌∙◌, arith}
use Rattle.dir_table.specs.declared.calls.DirCall.{DirCall}
use Rattle.trace_text.specs.declared.trace.TraceCall.{TraceCall}
use Rattle.trace_text.specs.Attachments.{attached_in, versions_from}
use Rattle.policy_versions.specs.Places.{RegistryId}
use Rattle.policy_versions.specs.Models.{PublisherModel}
use Rattle.shfl_workers.specs.declared.activity.Activity.{Activity}
use Rattle.shfl_workers.specs.declared.attaching.Attaching.{Attaching}
use Rattle.shfl_workers.specs.Activities.{IsAt, AreNumbered}
use Rattle.shfl_workers.specs.Attaching.{Attached}

pub is_there : {X : Type 0} (P : X → Type 0) (o : Option X) → IsSomeAnd o P → IsSome o
is_there P None h = absurd h
is_there P (Some x) h = refl

module _ {Pass : Type 0} (number : Pass → ℕ) (is_pass : Pass → Type 0) (made : Pass → List DirCall → Type 0) (left : Pass → ℕ) (registry : RegistryId) (calls : List TraceCall) where
  -- all that the trace attaches is published
  abbrev pub HasPublished : PublisherModel → Type 0
  HasPublished p = (p.registry ≡ registry) × (p.rows ≡ versions_from 1 (attached_in calls))

  of_first : (o : Option Attaching) → IsSomeAnd o (λ x. Attached registry (attached_in calls) [] x.publisher x.copies.items) → IsSomeAnd o (λ x. HasPublished x.publisher)
  of_first None h = absurd h
  of_first (Some x) h = (h.of_registry, h.rows)

  -- there is a first activity, and its worker attaches
  pub first_of : (all : List (Activity Pass)) → 0 < length all → AreNumbered number all → All (IsAt is_pass number made left registry calls []) all
      → (a : Activity Pass) × (rest : List (Activity Pass)) × (all ≡ a ∷ rest) × IsSomeAnd a.attaching (λ x. HasPublished x.publisher)
  first_of [] some numbered at = absurd (omega (arith, some))
  first_of (a ∷ rest) some numbered at = (a, rest, refl, of_first a.attaching ((at 0 a (omega arith)).progress.attached (numbered 0 a (omega arith))))

  -- the publisher is that of the first activity
  same_publisher : (o : Option Attaching) (p : PublisherModel) → IsSomeAnd o (λ x. HasPublished x.publisher) → IsSomeAnd o (λ x. p ≡ x.publisher) → HasPublished p
  same_publisher None p h same = absurd h
  same_publisher (Some x) p h same = (ap (λ (m : PublisherModel). m.registry) same ∙ h.0, ap (λ (m : PublisherModel). m.rows) same ∙ h.1)

  pub published : (all : List (Activity Pass)) (p : PublisherModel) → 0 < length all → AreNumbered number all → All (IsAt is_pass number made left registry calls []) all
      → ((a : Activity Pass) (rest : List (Activity Pass)) → all ≡ a ∷ rest → IsSomeAnd a.attaching (λ x. p ≡ x.publisher)) → HasPublished p
  published all p some numbered at told = let f = first_of all some numbered at in same_publisher f.0.attaching p f.3 (told f.0 f.1 f.2)
