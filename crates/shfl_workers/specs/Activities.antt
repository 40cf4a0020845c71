-- What each worker works with.
use Rattle.std.specs.Prelude.{◌≡◌, ℕ, ◌<◌, Bool, List, [], ◌∷◌, length, slice_index_or, Option, None}
use Rattle.dir_table.specs.declared.calls.DirCall.{DirCall}
use Rattle.trace_text.specs.declared.trace.TraceCall.{TraceCall}
use Rattle.shfl_line.specs.declared.choosers.Told.{Told}
use Rattle.round_log.specs.Logs.{begun, told_in, InRounds}
use Rattle.trace_text.specs.Histories.{made_in, of_worker}
use Rattle.policy_versions.specs.Places.{RegistryId}
use Rattle.policy_versions.specs.Noting.{IsLogOf}
use Rattle.policy_versions.specs.Models.{PassModel, IsClosed}
use Rattle.shfl_workers.specs.declared.activity.Activity.{Activity}
use Rattle.shfl_workers.specs.declared.attaching.Attaching.{Attaching}
use Rattle.shfl_workers.specs.Asked.{LogsTurns}
use Rattle.shfl_workers.specs.Progress.{Progress}

-- the user with a log in which nothing stands yet, where it keeps anything
abbrev pub with_log : PassModel → Bool → PassModel
with_log u keeps = record u { log = begun keeps }

-- the user without its log
abbrev pub unlogged : PassModel → PassModel
unlogged u = record u { log = None }

-- each activity has the pass and the user of its place, with such a log, and the first one attaches
abbrev pub Joined : {Pass : Type 0} → List Pass → List PassModel → Bool → Option Attaching → List (Activity Pass) → Type 0
Joined [] [] keeps first [] = Unit {0}
Joined (p ∷ ps) (u ∷ us) keeps first (a ∷ rest) = (a ≡ record { pass = p; user = with_log u keeps; attaching = first }) × Joined ps us keeps None rest
Joined _ _ keeps first _ = ⊥

-- a worker that has these calls of the trace behind it and those ahead, and no use of a policy open
pub record IsAt {Pass : Type 0} (is_pass : Pass → Type 0) (worker : Pass → ℕ) (made : Pass → List DirCall → Type 0) (left : Pass → ℕ)
    (registry : RegistryId) (done ahead : List TraceCall) (a : Activity Pass) : Type 0 where
  pub of_dir : is_pass a.pass
  pub closed : IsClosed registry a.user
  pub logged : IsLogOf registry.declared a.user.seen a.user.log
  pub progress : Progress made left registry (worker a.pass) done ahead a.pass a.attaching

-- each activity stands at the place of its pass's number
abbrev pub AreNumbered : {Pass : Type 0} → (Pass → ℕ) → List (Activity Pass) → Type 0
AreNumbered {Pass} number activities = (k : ℕ) (d : Activity Pass) → k < length activities → number (slice_index_or activities k d).pass ≡ k

-- a worker made its calls among these, and its log has what they asked, in whole rounds
pub record Works {Pass : Type 0} (worker : Pass → ℕ) (asks : Pass → DirCall → Pass → Option (List Told) → Option (List Told) → Type 0)
    (calls : List TraceCall) (old new : Activity Pass) : Type 0 where
  pub number : worker new.pass ≡ worker old.pass
  pub asked : LogsTurns asks (of_worker (worker old.pass) (made_in calls)) old.pass new.pass old.user.log new.user.log
  pub whole : InRounds (told_in old.user.log) (told_in new.user.log)
