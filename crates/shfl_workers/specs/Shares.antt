-- How many calls on the directory each worker of a trace makes.
use Rattle.std.specs.Prelude.{◌≡◌, ℕ, ◌<◌, ◌≤◌, List, length, slice_index, sum}
use Rattle.trace_text.specs.declared.trace.TraceCall.{TraceCall}
use Rattle.trace_text.specs.Histories.{made_in, of_worker}

-- the calls that a worker makes
abbrev pub share_of : List TraceCall → ℕ → ℕ
share_of calls worker = length (of_worker worker (made_in calls))

-- one number for each of so many workers
pub record AreShares (calls : List TraceCall) (workers : ℕ) (shares : List ℕ) : Type 0 where
  pub as_many : length shares ≡ workers
  pub each : (worker : ℕ) → worker < workers → slice_index shares worker ≡ share_of calls worker
  -- no call is counted twice
  pub few : sum shares ≤ length calls
