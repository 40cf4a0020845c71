-- What the logs of a trace's workers tell of the rounds that they answered.
use Rattle.std.specs.Prelude.{◌≡◌, ℕ, Bool, List, Option, All, length}
use Rattle.round_log.specs.declared.log.Note.{Note}
use Rattle.round_log.specs.Logs.{begun, told_in, InRounds}
use Rattle.shfl_policy.specs.Policies.{PolicyModel}
use Rattle.policy_versions.specs.Noting.{AreRoundsOf}
use Rattle.trace_text.specs.declared.trace.Trace.{Trace}
use Rattle.shfl_workers.specs.Loaded.{AreLoaded}

-- A log for each worker of the trace. Where they keep anything, each has whole rounds; each note is of a version that was published,
-- or of the first one, and its answer is that of the trace's policy which this version is; each round keeps its version, and versions
-- never fall.
pub record HaveRounds (t : Trace) (keeps : Bool) (versions : List (ℕ × ℕ)) (logs : List (Option (List Note))) : Type 0 where
  pub many : length logs ≡ length t.workers.items
  pub declared : List PolicyModel
  pub loaded : AreLoaded t.profile t.policies.items declared
  pub answered : All (AreRoundsOf declared versions) logs
  pub whole : All (λ l. InRounds (told_in (begun keeps)) (told_in l)) logs
