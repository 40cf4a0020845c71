-- What the program writes of a trace whose calls stand in one queue.
use Rattle.std.specs.Prelude.{◌≡◌, ℕ, List, ◌++◌, map, length, true, Option, Some, None, Ok, IsSome, codes, slice_get}
use Rattle.std.specs.List.{AllByRecursion}
use Rattle.dir_table.specs.Directory.{Directory}
use Rattle.dir_table.specs.Meanings.{Admits}
use Rattle.dir_table.specs.Numbers.{call_numbers, reply_numbers, state_numbers}
use Rattle.round_log.specs.declared.log.Note.{Note}
use Rattle.shfl_policy.specs.Loading.{IsLoaded}
use Rattle.shfl_policy.specs.Policies.{PolicyModel}
use Rattle.trace_text.specs.declared.trace.NamedSource.{NamedSource}
use Rattle.trace_text.specs.declared.trace.Trace.{Trace}
use Rattle.trace_text.specs.Document.{Document}
use Rattle.trace_text.specs.Grammar.{ReadsTrace}
use Rattle.trace_text.specs.Histories.{beginning}
use Rattle.trace_text.specs.InMemory.{IsTraceOf}
use Rattle.trace_text.specs.Traces.{policy_names_of}
use Rattle.pool_text.specs.PoolDocuments.{calls_of, pool_fault}
use Rattle.pool_text.specs.PoolReports.{pool_report, pool_of}
use Rattle.call_pool.specs.Rounds.{HaveRounds}
use Rattle.call_pool.specs.Runs.{IsLeftWithLogs}
use Rattle.syncord_pool.specs.Runs.{IsPooled, Pooled}
use Rattle.syncord_rounds.specs.Rounds.{notes_in, rounds_text}

-- a pool of the trace's calls on an empty directory, with a pass for each of its workers, left this history as it was closed; each pass's
-- log has just what the pass asked
abbrev pub RanFromQueue : Trace → Pooled → List (Option (List Note)) → Type 0
RanFromQueue t history logs = IsLeftWithLogs call_numbers reply_numbers Admits (state_numbers (beginning t)) t.workers.items (calls_of t.calls.items) history true logs

-- a log of whole rounds for each of the trace's workers, all of them by its first policy
pub record HaveFirstRounds (t : Trace) (logs : List (Option (List Note))) : Type 0 where
  pub declared : NamedSource
  pub first : slice_get t.policies.items 0 ≡ Some declared
  pub policy : PolicyModel
  pub loaded : IsLoaded 0 t.profile declared.source policy
  pub rounds : HaveRounds (length t.workers.items) policy true logs

-- the text tells a run of the trace's calls from one queue
pub record IsToldOf (t : Trace) (text : List ℕ) : Type 0 where
  -- the holds of a lock made this history of the calls, which leaves this directory
  pub history : Pooled
  pub final : Directory
  pub is_history : IsPooled t history final
  -- each worker has a log of whole rounds, and all of it was kept
  pub logs : List (Option (List Note))
  pub ran : RanFromQueue t history logs
  pub rounds : HaveFirstRounds t logs
  pub kept : AllByRecursion IsSome logs
  -- the text is the report of that history, and behind it these rounds
  pub told : text ≡ pool_report (pool_of t history final) ++ rounds_text (policy_names_of t) (codes "queue") (map notes_in logs)

-- the bytes are a trace whose call lines may all stand in a pool, and the text tells a run of it
pub record TellsPool (bytes text : List ℕ) : Type 0 where
  pub document : Document
  pub read : ReadsTrace bytes (Ok document)
  pub fits : pool_fault document ≡ None
  pub trace : Trace
  pub is_trace : IsTraceOf document trace
  pub told : IsToldOf trace text
