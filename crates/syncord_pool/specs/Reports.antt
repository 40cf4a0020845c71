-- What `pool` writes, and which bytes it refuses.
use Rattle.std.specs.Prelude.{◌≡◌, ◌⊎◌, ℕ, List, map, None, Some, Ok, Err}
use Rattle.doc_text.specs.declared.fault.Fault.{Fault}
use Rattle.dir_table.specs.declared.calls.DirCall.{DirCall}
use Rattle.dir_table.specs.declared.calls.DirReply.{DirReply}
use Rattle.dir_table.specs.Directory.{Directory}
use Rattle.hist_log.specs.declared.entry.Entry.{Entry}
use Rattle.hist_log.specs.declared.numbered.NumberedCall.{NumberedCall}
use Rattle.trace_text.specs.declared.trace.Trace.{Trace}
use Rattle.trace_text.specs.Document.{Document}
use Rattle.trace_text.specs.Grammar.{ReadsTrace}
use Rattle.trace_text.specs.Histories.{beginning, AreAnswered, after_all}
use Rattle.trace_text.specs.InMemory.{IsTraceOf}
use Rattle.trace_text.specs.Report.{Done}
use Rattle.syncord_endings.specs.declared.ending.Refusal.{Refusal}
use Rattle.syncord_endings.specs.declared.ending.Refusal.TheVariants.{Line}
use Rattle.pool_text.specs.PoolDocuments.{pool_fault}
use Rattle.pool_text.specs.PoolReports.{pool_report, pool_of}
use Rattle.syncord_pool.specs.Runs.{IsPooled, Pooled}

-- an entry without its call's place
abbrev pub done_at : {O : Type 0} → Entry O (NumberedCall DirCall) DirReply → Done
done_at e = record { worker = e.worker; call = e.call.call; reply = e.reply }

-- the text is the report of a history of the trace's calls that came about in this way
pub record IsReportOf (Ran : Trace → Pooled → Type 0) (t : Trace) (text : List ℕ) : Type 0 where
  pub history : Pooled
  pub final : Directory
  pub is_history : IsPooled t history final
  pub ran : Ran t history
  -- the same in the directory's own terms: each reply is its answer after the calls before, and this is what they leave,
  -- whatever calls are left to it
  pub answered : AreAnswered (beginning t) (map done_at history)
  pub leaves : record final { spare = 0 } ≡ after_all (beginning t) (map done_at history)
  pub told : text ≡ pool_report (pool_of t history final)

-- the bytes are a trace whose call lines may all stand in a pool, and the text is the report of a history of its calls that came
-- about in this way
pub record Reports (Ran : Trace → Pooled → Type 0) (bytes text : List ℕ) : Type 0 where
  pub document : Document
  pub read : ReadsTrace bytes (Ok document)
  pub fits : pool_fault document ≡ None
  pub trace : Trace
  pub is_trace : IsTraceOf document trace
  pub is_report : IsReportOf Ran trace text

-- the bytes are no trace, or one with a call line that may not stand in a pool; the refusal tells the first bad line, and the
-- lowest fault on it
pub record Refuses (bytes : List ℕ) (refusal : Refusal) : Type 0 where
  pub fault : Fault
  pub read : ReadsTrace bytes (Err fault) ⊎ ((d : Document) × ReadsTrace bytes (Ok d) × (pool_fault d ≡ Some fault))
  pub told : refusal ≡ Line fault.line fault.what
