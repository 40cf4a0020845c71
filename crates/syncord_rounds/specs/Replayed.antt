-- What the program writes of a trace that its workers run.
use Rattle.std.specs.Prelude.{◌≡◌, ℕ, List, ◌++◌, map, true, Option, Ok, IsSome}
use Rattle.std.specs.List.{AllByRecursion}
use Rattle.dir_table.specs.Directory.{Directory}
use Rattle.round_log.specs.declared.log.Note.{Note}
use Rattle.trace_text.specs.declared.trace.Trace.{Trace}
use Rattle.trace_text.specs.Attachments.{attaches_of}
use Rattle.trace_text.specs.Document.{Document}
use Rattle.trace_text.specs.Grammar.{ReadsTrace}
use Rattle.trace_text.specs.Histories.{IsHistoryOf}
use Rattle.trace_text.specs.InMemory.{IsTraceOf}
use Rattle.trace_text.specs.Report.{Done, report}
use Rattle.trace_text.specs.Traces.{policy_names_of}
use Rattle.shfl_workers.specs.Rounds.{HaveRounds}
use Rattle.syncord_replay.specs.Replays.{replayed}
use Rattle.syncord_rounds.specs.declared.lock.Lock.{Lock}
use Rattle.syncord_rounds.specs.Locks.{lock_word, IsLockFor, RanOn}
use Rattle.syncord_rounds.specs.Rounds.{notes_in, rounds_text}

-- the text tells a run of the trace on the lock that is wanted
pub record IsToldOf (wanted : Option Lock) (t : Trace) (text : List ℕ) : Type 0 where
  -- it is that lock which ran
  pub lock : Lock
  pub chosen : IsLockFor wanted t lock
  -- its holds made this history of the trace, which leaves this directory
  pub history : List Done
  pub final : Directory
  pub is_history : IsHistoryOf t history final
  pub ran : RanOn lock t history
  -- each worker has a log of whole rounds, by the policies of the trace as they were attached, and all of it was kept
  pub logs : List (Option (List Note))
  pub rounds : HaveRounds t true (attaches_of t) logs
  pub kept : AllByRecursion IsSome logs
  -- the text is the report of that history, and behind it these rounds
  pub told : text ≡ report (replayed t history final) ++ rounds_text (policy_names_of t) (lock_word lock) (map notes_in logs)

-- the bytes are a trace, and the text tells a run of it on that lock
pub record TellsReplay (wanted : Option Lock) (bytes text : List ℕ) : Type 0 where
  pub document : Document
  pub read : ReadsTrace bytes (Ok document)
  pub trace : Trace
  pub is_trace : IsTraceOf document trace
  pub told : IsToldOf wanted trace text
