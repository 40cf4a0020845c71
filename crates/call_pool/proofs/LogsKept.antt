-- A log of the rounds of one policy goes on.
use Rattle.std.proofs.Common.{◌≡◌, ℕ, zero, suc, ◌≤◌, Bool, true, false, List, [], ◌∷◌, ◌++◌, Option, Some, None, inr, ⊎_elim, refl, sym, ap, subst, arith}
use Rattle.std.specs.List.{AllByRecursion}
use Rattle.shfl_line.specs.declared.choosers.Told.{Told}
use Rattle.round_log.specs.declared.log.Note.{Note}
use Rattle.round_log.specs.Logs.{AddsNote, begun}
use Rattle.round_log.proofs.Growing.{Follows, FollowsBehind, all-more, falls-more, keeps-more}
use Rattle.shfl_policy.specs.Policies.{PolicyModel}
use Rattle.policy_versions.specs.Models.{IsRow}
use Rattle.policy_versions.specs.Noting.{IsAnswerOf, IsPublishedNote}
use Rattle.call_pool.specs.Rounds.{AreRoundsBy}

-- without publications the one version is 0
zeroth : (version which : ℕ) → IsRow [] version which → version ≡ 0
zeroth zero which is = refl
zeroth (suc version) which is = absurd (cc)

abbrev second_of : Option (ℕ × ℕ) → ℕ
second_of None = 0
second_of (Some p) = p.1

-- and its policy the only one
first : (version which : ℕ) → IsRow [] version which → which ≡ 0
first zero which is = sym (ap second_of is)
first (suc version) which is = absurd (cc)

module _ (policy : PolicyModel) where
  abbrev IsOne : Note → Type 0
  IsOne n = IsPublishedNote (policy ∷ []) [] n

  abbrev told_by_it : Told → Note
  told_by_it told = record { version = 0; which = 0; told = told }

  below : (notes : List Note) → AllByRecursion IsOne notes → AllByRecursion (λ (m : Note). m.version ≤ 0) notes
  below [] all = tt
  below (x ∷ xs) all = let none = zeroth x.version x.which all.0.published in (omega (arith, none), below xs all.1)

  behind : (told : Told) (x : Note) (xs : List Note) → IsOne x → AllByRecursion IsOne xs → FollowsBehind x xs (told_by_it told)
  behind told x [] one all = inr (sym (zeroth x.version x.which one.published), sym (first x.version x.which one.published))
  behind told x (y ∷ ys) one all = behind told y ys all.0 all.1

  follows : (told : Told) (notes : List Note) → AllByRecursion IsOne notes → Follows notes (told_by_it told)
  follows told [] all = tt
  follows told (x ∷ xs) all = behind told x xs all.0 all.1

  pub rounds_begun : (keeps : Bool) → AreRoundsBy policy (begun keeps)
  rounds_begun true = (tt, tt, tt)
  rounds_begun false = tt

  -- the policy is told something more
  pub rounds_more : (old new : Option (List Note)) (told : Told) → AreRoundsBy policy old → IsAnswerOf (Some policy) told
      → AddsNote old new (record { version = 0; which = 0; told = told }) → AreRoundsBy policy new
  rounds_more None new told rounds answer adds = subst (AreRoundsBy policy) (sym adds) tt
  rounds_more (Some notes) new told rounds answer adds =
      let n = told_by_it told in
      ⊎_elim
      (λ e. subst (AreRoundsBy policy) (sym e) (
        all-more IsOne notes n rounds.0 (record { answered = answer; published = refl }),
        falls-more notes n rounds.1 (below notes rounds.0),
        keeps-more notes n rounds.2 (follows told notes rounds.0),
      ))
      (λ e. subst (AreRoundsBy policy) (sym e) tt) adds
