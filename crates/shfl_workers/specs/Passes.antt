-- A worker's pass before its first call and behind its last one.
use Rattle.std.specs.Prelude.{◌≡◌, ℕ, List, [], Some, slice_get}
use Rattle.dir_table.specs.declared.calls.DirCall.{DirCall}
use Rattle.trace_text.specs.declared.trace.TraceCall.{TraceCall}
use Rattle.trace_text.specs.Histories.{made_in, of_worker}
use Rattle.shfl_workers.specs.Shares.{share_of}

-- what is true of each element with its place
abbrev pub AtEachPlace : {X : Type 0} → (ℕ → X → Type 0) → List X → Type 0
AtEachPlace {X} P xs = (k : ℕ) (x : X) → slice_get xs k ≡ Some x → P k x

module _ {Pass : Type 0} (is_pass : Pass → Type 0) (worker : Pass → ℕ) (made : Pass → List DirCall → Type 0) where
  -- worker k's pass, which has made no call, and may make as many as the trace has of that worker
  pub record IsReady (left : Pass → ℕ) (calls : List TraceCall) (k : ℕ) (p : Pass) : Type 0 where
    pub of_dir : is_pass p
    pub number_is : worker p ≡ k
    pub none_made : made p []
    pub left_is : left p ≡ share_of calls k

  -- worker k's pass, which has made just that worker's calls of the trace, in order
  pub record IsDone (calls : List TraceCall) (k : ℕ) (p : Pass) : Type 0 where
    pub of_dir : is_pass p
    pub number_is : worker p ≡ k
    pub has_made : made p (of_worker k (made_in calls))
