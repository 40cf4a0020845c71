-- What `pool` writes of a history and of the names at the end.
use Rattle.std.specs.Prelude.{ℕ, List, [], ◌∷◌, ◌++◌, map, length, codes}
use Rattle.std.specs.Fmt.{decimal}
use Rattle.std.specs.List.{flat_map}
use Rattle.std.specs.FinMap.{entries}
use Rattle.doc_text.specs.Text.{ended}
use Rattle.doc_text.specs.Words.{spaced}
use Rattle.dir_table.specs.declared.calls.DirCall.{DirCall}
use Rattle.dir_table.specs.declared.calls.DirReply.{DirReply}
use Rattle.dir_table.specs.Directory.{Directory}
use Rattle.dir_table.specs.Names.{Place}
use Rattle.hist_log.specs.declared.entry.Entry.{Entry}
use Rattle.hist_log.specs.declared.numbered.NumberedCall.{NumberedCall}
use Rattle.trace_text.specs.declared.trace.Trace.{Trace}
use Rattle.trace_text.specs.Report.{row_line, counted_line, reply_words}
use Rattle.trace_text.specs.Spelling.{act_words}
use Rattle.trace_text.specs.Traces.{dir_act, names_of}

-- the entries of a history of numbered calls, whatever the object's type
abbrev pub PoolEntries : Type 0 → Type 0
PoolEntries O = List (Entry O (NumberedCall DirCall) DirReply)

-- `WORKER AT`, the call, ` = ` and the reply
abbrev pub entry_line : {O : Type 0} → List (List ℕ) → Entry O (NumberedCall DirCall) DirReply → List ℕ
entry_line names e = spaced (decimal e.worker ∷ decimal e.call.at ∷ act_words (dir_act names e.call.call) ++ codes "=" ∷ reply_words names e.reply)

abbrev pub heading : ℕ → ℕ → List ℕ
heading workers entries = spaced (codes "syncord-pool" ∷ codes "1" ∷ codes "workers" ∷ decimal workers ∷ codes "entries" ∷ decimal entries ∷ [])

-- what is reported: how many workers there are, the names, the history, and the names at the end with their directories and numbers
pub record Pool (O : Type 0) : Type 0 where
  pub workers : ℕ
  pub names : List (List ℕ)
  pub history : List (Entry O (NumberedCall DirCall) DirReply)
  pub rows : List (Place × ℕ)

abbrev pub pool_lines : {O : Type 0} → Pool O → List (List ℕ)
pool_lines r =
    heading r.workers (length r.history) ∷ map (entry_line r.names) r.history
    ++ counted_line (codes "final") (length r.rows) ∷ map (row_line r.names) r.rows
    ++ codes "end" ∷ []

abbrev pub pool_report : {O : Type 0} → Pool O → List ℕ
pool_report r = flat_map ended (pool_lines r)

-- the report's parts, of values in memory
abbrev pub pool_of : {O : Type 0} → Trace → List (Entry O (NumberedCall DirCall) DirReply) → Directory → Pool O
pool_of t history final = record { workers = length t.workers.items; names = names_of t; history = history; rows = entries final.names }
