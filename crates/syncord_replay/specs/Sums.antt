-- What `bulk` writes, and how it ends, which reads nothing.
use Rattle.std.specs.Prelude.{◌≡◌, ◌-◌, ◌<◌, ℕ, List, [], length, map, take}
use Rattle.std.specs.FinMap.{entries}
use Rattle.dir_table.specs.Directory.{Directory}
use Rattle.trace_text.specs.declared.trace.Trace.{Trace}
use Rattle.trace_text.specs.Generator.{generated}
use Rattle.trace_text.specs.Report.{Done, Bulk, bulk_report}
use Rattle.trace_text.specs.Reported.{attachments}
use Rattle.syncord_endings.specs.declared.ending.Ending.{Ending}
use Rattle.syncord_endings.specs.declared.ending.Ending.TheVariants.{Done as Whole, NoReport, WriteFault}
use Rattle.syncord_endings.specs.declared.ending.Refusal.{Refusal}
use Rattle.syncord_endings.specs.declared.ending.Refusal.TheVariants.{NoMemory}
use Rattle.syncord_endings.specs.Endings.{status_of, message_of}
use Rattle.syncord_endings.specs.Traffic.{Traffic, Failed, Takes, Told}
use Rattle.trace_text.specs.Histories.{IsHistoryOf}
use Rattle.trace_text.specs.InMemory.{IsTraceOf}

-- what is summed up of a history of the trace that leaves this directory
abbrev pub summed : ℕ → Trace → List Done → Directory → Bulk
summed seed t history final = record {
  seed = seed;
  workers = length t.workers.items;
  calls = length t.calls.items - attachments t;
  attaches = attachments t;
  replies = map (λ e. e.reply) history;
  left = length (entries final.names);
}

-- the text is the summary of a history of the trace that the seed makes, which came about in this way
pub record Summarizes (Ran : Trace → List Done → Type 0) (seed workers calls : ℕ) (text : List ℕ) : Type 0 where
  pub trace : Trace
  pub is_trace : IsTraceOf (generated seed workers calls) trace
  pub history : List Done
  pub final : Directory
  pub is_history : IsHistoryOf trace history final
  pub ran : Ran trace history
  pub told : text ≡ bulk_report (summed seed trace history final)

abbrev pub RunsOut : Traffic → Refusal → Type 0
RunsOut output NoMemory = Takes output []
RunsOut output refusal = ⊥

-- the text was written whole, a front of it was and the sink failed, or memory ran out and nothing was written
abbrev pub Writes : (List ℕ → Type 0) → Traffic → Ending → Type 0
Writes sums output Whole = (text : List ℕ) × sums text × Takes output text
Writes sums output (NoReport refusal) = RunsOut output refusal
Writes sums output (WriteFault written) =
    (text : List ℕ) × sums text × Takes output (take written text) × (written < length text) × Failed output
Writes sums output ending = ⊥

-- a status has such an ending behind it, and the error stream was told that
abbrev pub Concludes : (List ℕ → Type 0) → Traffic → Traffic → ℕ → Type 0
Concludes sums output error status = (e : Ending) × (status ≡ status_of e) × Writes sums output e × Told error (message_of e)
