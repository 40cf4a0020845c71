-- What `replay` and `bulk` write.
use Rattle.std.specs.Prelude.{◌≡◌, ℕ, List, length, Ok, Err}
use Rattle.std.specs.FinMap.{entries}
use Rattle.doc_text.specs.declared.fault.Fault.{Fault}
use Rattle.dir_table.specs.Directory.{Directory}
use Rattle.trace_text.specs.declared.trace.Trace.{Trace}
use Rattle.trace_text.specs.Document.{Document}
use Rattle.trace_text.specs.Grammar.{ReadsTrace}
use Rattle.trace_text.specs.InMemory.{IsTraceOf}
use Rattle.trace_text.specs.Traces.{names_of, policy_names_of}
use Rattle.trace_text.specs.Report.{Done, Replay, report}
use Rattle.syncord_endings.specs.declared.ending.Refusal.{Refusal}
use Rattle.syncord_endings.specs.declared.ending.Refusal.TheVariants.{Line}
use Rattle.trace_text.specs.Histories.{IsHistoryOf}
use Rattle.trace_text.specs.Attachments.{attaches_of}

-- what is reported of a history of the trace that leaves this directory
abbrev pub replayed : Trace → List Done → Directory → Replay
replayed t history final = record {
  version = t.version;
  profile = t.profile;
  workers = length t.workers.items;
  names = names_of t;
  policies = policy_names_of t;
  history = history;
  rows = entries final.names;
  attaches = attaches_of t;
}

-- the text is the report of a history of the trace that came about in this way
pub record IsReportOf (Ran : Trace → List Done → Type 0) (t : Trace) (text : List ℕ) : Type 0 where
  pub history : List Done
  pub final : Directory
  pub is_history : IsHistoryOf t history final
  pub ran : Ran t history
  pub told : text ≡ report (replayed t history final)

-- the bytes are a trace, and the text is the report of a history of it that came about in this way
pub record Reports (Ran : Trace → List Done → Type 0) (bytes text : List ℕ) : Type 0 where
  pub document : Document
  pub read : ReadsTrace bytes (Ok document)
  pub trace : Trace
  pub is_trace : IsTraceOf document trace
  pub is_report : IsReportOf Ran trace text

-- the bytes are no trace; the refusal tells the first bad line, and the lowest fault on it
pub record Refuses (bytes : List ℕ) (refusal : Refusal) : Type 0 where
  pub fault : Fault
  pub read : ReadsTrace bytes (Err fault)
  pub told : refusal ≡ Line fault.line fault.what
