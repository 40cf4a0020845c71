-- What is noted of the rounds of a user.
use Rattle.std.specs.Prelude.{◌≡◌, ℕ, List, [], ◌∷◌, Bool, Option, Some, None, slice_get}
use Rattle.std.specs.List.{AllByRecursion}
use Rattle.shfl_line.specs.declared.choosers.Answer.{Answer}
use Rattle.shfl_line.specs.declared.choosers.Told.{Told}
use Rattle.shfl_line.specs.declared.choosers.Told.TheVariants.{Begun, Answered, Ended}
use Rattle.round_log.specs.declared.log.Note.{Note}
use Rattle.round_log.specs.Logs.{NeverFall, KeepVersions}
use Rattle.shfl_policy.specs.Policies.{PolicyModel}
use Rattle.policy_versions.specs.Rule.{IsAmong, word_of}
use Rattle.policy_versions.specs.Models.{UsingModel, IsRow, IsVersion}
use Rattle.policy_versions.specs.Choosing.{skipped, moved_up}

-- what is told under a use
abbrev pub note_of : UsingModel → Told → Note
note_of u told = record { version = u.version; which = u.which; told = told }

-- the policy's answer to the question: whether to skip the round where it is of no waiter, else whether to move that one up
abbrev pub answer_by : Option PolicyModel → Answer → Bool
answer_by policy a = elim a.waiter [ None ↦ skipped policy a.anchor a.batch | Some waiter ↦ moved_up policy a.anchor waiter a.batch ]

-- what it is told as its answer is its answer
abbrev pub IsAnswerOf : Option PolicyModel → Told → Type 0
IsAnswerOf policy Begun = Unit {0}
IsAnswerOf policy (Answered a) = a.answer ≡ answer_by policy a
IsAnswerOf policy Ended = Unit {0}

-- the note names a version whose word was loaded, and its answer is that of this version's policy
pub record IsNoted (declared : List PolicyModel) (seen : List ℕ) (n : Note) : Type 0 where
  pub answered : IsAnswerOf (slice_get declared n.which) n.told
  pub loaded : IsAmong (word_of n.version n.which) seen
  pub version : IsVersion n.version

-- so it is with each note of a log that keeps them; each round keeps its version, and versions never fall
abbrev pub IsLogOf : List PolicyModel → List ℕ → Option (List Note) → Type 0
IsLogOf declared seen None = Unit {0}
IsLogOf declared seen (Some notes) = AllByRecursion (IsNoted declared seen) notes × NeverFall notes × KeepVersions notes

-- the last one of these notes is of this use
abbrev pub EndsUnder : UsingModel → Note → List Note → Type 0
EndsUnder u n [] = (n.version ≡ u.version) × (n.which ≡ u.which)
EndsUnder u n (m ∷ rest) = EndsUnder u m rest

abbrev pub AreLastUnder : UsingModel → List Note → Type 0
AreLastUnder u [] = Unit {0}
AreLastUnder u (n ∷ rest) = EndsUnder u n rest

-- while a round is open, the last note is of its use
abbrev pub IsNotedLast : Option UsingModel → Option (List Note) → Type 0
IsNotedLast None log = Unit {0}
IsNotedLast (Some u) None = Unit {0}
IsNotedLast (Some u) (Some notes) = AreLastUnder u notes

-- each note of a log that keeps them names a publication, or version 0, which is the first policy; its answer is that of the declared
-- policy of this version; each round keeps the version that it began with, and versions never fall
pub record IsPublishedNote (declared : List PolicyModel) (rows : List (ℕ × ℕ)) (n : Note) : Type 0 where
  pub answered : IsAnswerOf (slice_get declared n.which) n.told
  pub published : IsRow rows n.version n.which

abbrev pub AreRoundsOf : List PolicyModel → List (ℕ × ℕ) → Option (List Note) → Type 0
AreRoundsOf declared rows None = Unit {0}
AreRoundsOf declared rows (Some notes) = AllByRecursion (IsPublishedNote declared rows) notes × NeverFall notes × KeepVersions notes
