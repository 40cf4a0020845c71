-- How far a worker is in the calls of its trace.
use Rattle.std.specs.Prelude.{◌≡◌, ℕ, ◌≤◌, List, Option, IsSomeAnd}
use Rattle.dir_table.specs.declared.calls.DirCall.{DirCall}
use Rattle.trace_text.specs.declared.trace.TraceCall.{TraceCall}
use Rattle.trace_text.specs.Histories.{made_in, of_worker}
use Rattle.trace_text.specs.Attachments.{attached_in}
use Rattle.policy_versions.specs.Places.{RegistryId}
use Rattle.shfl_workers.specs.declared.attaching.Attaching.{Attaching}
use Rattle.shfl_workers.specs.Attaching.{Attached}
use Rattle.shfl_workers.specs.Shares.{share_of}

-- the calls `done` of the trace lie behind the worker, and the calls `ahead` before it
pub record Progress {Pass : Type 0} (made : Pass → List DirCall → Type 0) (left : Pass → ℕ) (registry : RegistryId) (worker : ℕ)
    (done ahead : List TraceCall) (pass : Pass) (attaching : Option Attaching) : Type 0 where
  -- its pass made its calls among those that are done, in order
  pub has_made : made pass (of_worker worker (made_in done))
  -- and may make those ahead
  pub enough : share_of ahead worker ≤ left pass
  -- worker 0 published the policies attached so far, and has copies of the others
  pub attached : worker ≡ 0 → IsSomeAnd attaching (λ a. Attached registry (attached_in done) (attached_in ahead) a.publisher a.copies.items)
