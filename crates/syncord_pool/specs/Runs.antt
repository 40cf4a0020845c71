-- Traces whose calls may stand in a pool, and what a run leaves.
use Rattle.std.specs.Prelude.{◌≡◌, ◌<◌, ◌≤◌, length, All, Result, IfOk}
use Rattle.dir_table.specs.declared.calls.DirCall.{DirCall}
use Rattle.dir_table.specs.declared.calls.DirReply.{DirReply}
use Rattle.std.specs.List.{AllByRecursion}
use Rattle.dir_table.specs.Directory.{Directory}
use Rattle.dir_table.specs.Meanings.{reply_at, state_after}
use Rattle.dir_table.specs.Numbers.{call_numbers, reply_numbers, state_numbers}
use Rattle.hist_log.specs.History.{operations, state_left}
use Rattle.hist_log.specs.declared.numbered.Numbered.{Numbered}
use Rattle.hist_log.specs.Numbers.{numbers, inner}
use Rattle.hist_log.specs.PoolHistories.{IsPoolHistory}
use Rattle.policy_text.specs.Accepted.{AcceptsSource}
use Rattle.pool_text.specs.PoolDocuments.{calls_of}
use Rattle.pool_text.specs.PoolReports.{PoolEntries}
use Rattle.trace_text.specs.declared.trace.Trace.{Trace}
use Rattle.trace_text.specs.Histories.{beginning}
use Rattle.trace_text.specs.Traces.{IsWithin}
use Rattle.syncord_pool.specs.declared.outcome.PoolRun.{PoolRun}

-- a trace within the limits, with at most 4,096 call lines, whose programs are accepted
pub record MayRun (t : Trace) : Type 0 where
  pub within : IsWithin t
  pub few : length t.calls.items ≤ 4096
  pub accepted : AllByRecursion (λ p. AcceptsSource t.profile p.source) t.policies.items

-- a history of the trace's calls by its workers, each once with its place, from the empty directory on; and the directory that it leaves
pub record IsPooled {O : Type 0} (t : Trace) (history : PoolEntries O) (final : Directory) : Type 0 where
  pub is_history : IsPoolHistory call_numbers reply_numbers reply_at state_after (state_numbers (beginning t)) (calls_of t.calls.items) history
  pub leaves : state_numbers final ≡ state_left (λ state call. state_after state (inner call)) (state_numbers (beginning t))
      (operations (numbers call_numbers) reply_numbers history)
  pub workers : All (λ e. e.worker < length t.workers.items) history

-- the entries of a run of a pool
abbrev pub Pooled : Type 0
Pooled = PoolEntries (Numbered Directory DirCall DirReply)

-- a history of the trace's calls that came about in this way, and the directory that it leaves
pub record IsRunOf (Ran : Trace → Pooled → Type 0) (t : Trace) (r : PoolRun) : Type 0 where
  pub pooled : IsPooled t r.history.items r.dir
  pub ran : Ran t r.history.items

-- a runner may be called with each trace that may be run
abbrev pub TakesEach : {A T : Type 0} → (A → T → Type 0) → (T → Trace) → Type 0
TakesEach {A} {T} Pre now = (a : A) (t : T) → MayRun (now t) → Pre a t

-- what a runner answers is a run of its trace, or an error
abbrev pub LeavesRuns : {A T E : Type 0} → (Trace → Pooled → Type 0) → (A → T → Result PoolRun E → Type 0) → (T → Trace) → Type 0
LeavesRuns {A} {T} {E} Ran Post now = (a : A) (t : T) (r : Result PoolRun E) → Post a t r → IfOk r (IsRunOf Ran (now t))
