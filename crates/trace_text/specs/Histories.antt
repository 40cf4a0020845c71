-- Histories of a trace: in which orders, and with which replies, one directory can have taken its calls.
use Rattle.std.specs.Prelude.{◌≡◌, ℕ, List, [], ◌∷◌, map, filter, length, ◌==◌}
use Rattle.std.specs.List.{flat_map}
use Rattle.std.specs.FinMap.{empty}
use Rattle.dir_table.specs.declared.calls.DirCall.{DirCall}
use Rattle.dir_table.specs.Directory.{Directory}
use Rattle.dir_table.specs.Answers.{reply_to, after}
use Rattle.trace_text.specs.declared.trace.TraceAct.{TraceAct}
use Rattle.trace_text.specs.declared.trace.TraceAct.TheVariants as does
use Rattle.trace_text.specs.declared.trace.TraceCall.{TraceCall}
use Rattle.trace_text.specs.declared.trace.Trace.{Trace}
use Rattle.trace_text.specs.Report.{Done}

-- who makes a call on the directory, and which
pub record Made : Type 0 where
  pub worker : ℕ
  pub call : DirCall

-- a worker's call on the directory; an attachment is none
abbrev pub made_by : ℕ → TraceAct → List Made
made_by worker (does.Dir call) = record { worker = worker; call = call } ∷ []
made_by worker (does.Attach policy) = []

-- the calls on the directory that a trace has
abbrev pub made_in : List TraceCall → List Made
made_in calls = flat_map (λ c. made_by c.worker c.act) calls

-- the call that an entry of a history is the answer to
abbrev pub made_of : Done → Made
made_of e = record { worker = e.worker; call = e.call }

-- one worker's calls, in order
abbrev pub of_worker : ℕ → List Made → List DirCall
of_worker worker calls = map (λ m. m.call) (filter (λ m. m.worker == worker) calls)

-- the directory at the beginning, for so many names
abbrev pub empty_directory : ℕ → Directory
empty_directory room = record { names = empty; next_number = 1; room = room; spare = 0 }

abbrev pub beginning : Trace → Directory
beginning t = empty_directory (length t.names.items)

-- each reply is the directory's answer after the calls before it
abbrev pub AreAnswered : Directory → List Done → Type 0
AreAnswered d [] = Unit {0}
AreAnswered d (e ∷ es) = (e.reply ≡ reply_to d e.call) × AreAnswered (after d e.call) es

-- the directory after all the calls
abbrev pub after_all : Directory → List Done → Directory
after_all d [] = d
after_all d (e ∷ es) = after_all (after d e.call) es

-- The entries are answers of one directory that was empty, `final` is that directory afterwards, and each worker's calls of
-- the trace stand there, each once, in the trace's order. How the workers' calls stand among each other is left open.
pub record IsHistoryOf (t : Trace) (history : List Done) (final : Directory) : Type 0 where
  pub legal : AreAnswered (beginning t) history
  -- whatever calls are left to it
  pub leaves : record final { spare = 0 } ≡ after_all (beginning t) history
  pub each_once : (worker : ℕ) → of_worker worker (map made_of history) ≡ of_worker worker (made_in t.calls.items)
