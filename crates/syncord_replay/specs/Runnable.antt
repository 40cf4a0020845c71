-- Traces that may be run, and who runs them.
use Rattle.std.specs.Prelude.{◌≡◌, ◌≤◌, List, length, map, Result, IfOk}
use Rattle.std.specs.List.{AllByRecursion}
use Rattle.policy_text.specs.Accepted.{AcceptsSource}
use Rattle.trace_text.specs.declared.trace.Trace.{Trace}
use Rattle.trace_text.specs.Attachments.{attached_in, attaches_of}
use Rattle.trace_text.specs.Histories.{IsHistoryOf}
use Rattle.trace_text.specs.Report.{Done, done_of}
use Rattle.trace_text.specs.Traces.{IsWithin}
use Rattle.syncord_replay.specs.declared.outcome.Run.{Run}

-- a trace within the limits, whose attachments a registry has room for, and whose programs are accepted
pub record IsRunnable (t : Trace) : Type 0 where
  pub within : IsWithin t
  pub attaches : length (attached_in t.calls.items) ≤ 4096
  pub accepted : AllByRecursion (λ p. AcceptsSource t.profile p.source) t.policies.items

-- a history of the trace that came about in this way, the directory that it leaves, and the attachments as they were published
pub record IsRunOf (Ran : Trace → List Done → Type 0) (t : Trace) (r : Run) : Type 0 where
  pub history : IsHistoryOf t (map done_of r.history.items) r.dir
  pub ran : Ran t (map done_of r.history.items)
  pub versions : r.versions ≡ attaches_of t

-- a runner may be called with each trace that may be run
abbrev pub TakesEach : {A T : Type 0} → (A → T → Type 0) → (T → Trace) → Type 0
TakesEach {A} {T} Pre now = (a : A) (t : T) → IsRunnable (now t) → Pre a t

-- what a runner answers is a run of its trace, or an error
abbrev pub LeavesRuns : {A T E : Type 0} → (Trace → List Done → Type 0) → (A → T → Result Run E → Type 0) → (T → Trace) → Type 0
LeavesRuns {A} {T} {E} Ran Post now = (a : A) (t : T) (r : Result Run E) → Post a t r → IfOk r (IsRunOf Ran (now t))
