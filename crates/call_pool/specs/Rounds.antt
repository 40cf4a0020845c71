-- What the logs of a pool's takers tell of the rounds that its policy answered.
use Rattle.std.specs.Prelude.{◌≡◌, ℕ, Bool, List, [], ◌∷◌, Option, All, length}
use Rattle.shfl_line.specs.declared.choosers.Told.{Told}
use Rattle.round_log.specs.declared.log.Note.{Note}
use Rattle.round_log.specs.Logs.{begun, told_in, InRounds}
use Rattle.shfl_policy.specs.Policies.{PolicyModel}
use Rattle.policy_versions.specs.Noting.{AreRoundsOf}
use Rattle.call_pool.specs.declared.logged.Logged.{Logged}

-- each note of a log that keeps them is of version 0, and its answer is this policy's
abbrev pub AreRoundsBy : PolicyModel → Option (List Note) → Type 0
AreRoundsBy policy log = AreRoundsOf (policy ∷ []) [] log

-- a chooser that answers by one policy: the policy, the name of the lent log, and what this is now
pub record OnePolicyModel : Type 0 where
  pub policy : PolicyModel
  pub log_name : ℕ
  pub log : Option (List Note)

-- a taker whose log is new
abbrev pub with_log : {Pass : Type 0} → Bool → Pass → Logged Pass
with_log keeps pass = record { pass = pass; log = begun keeps }

-- the pass asked just what its log has more since, in whole rounds
pub record HasAsked {Pass : Type 0} (asks : Pass → Pass → Option (List Told) → Option (List Told) → Type 0) (old new : Logged Pass) : Type 0 where
  pub asked : asks old.pass new.pass (told_in old.log) (told_in new.log)
  pub whole : InRounds (told_in old.log) (told_in new.log)

-- A log for each of so many takers, in the order of their numbers. Where they keep anything, each has whole rounds; each note is of
-- version 0, which is this policy, and its answer is the policy's.
pub record HaveRounds (takers : ℕ) (policy : PolicyModel) (keeps : Bool) (logs : List (Option (List Note))) : Type 0 where
  pub many : length logs ≡ takers
  pub answered : All (AreRoundsOf (policy ∷ []) []) logs
  pub whole : All (λ l. InRounds (told_in (begun keeps)) (told_in l)) logs
