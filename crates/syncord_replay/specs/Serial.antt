-- What stands after the calls of a trace up to some line were done one after another.
use Rattle.std.specs.Prelude.{◌≡◌, ℕ, List, map, length}
use Rattle.std.specs.FinMap.{empty}
use Rattle.dir_table.specs.Directory.{Directory}
use Rattle.dir_table.specs.Numbers.{call_numbers}
use Rattle.dir_table.specs.Meanings.{reply_at, state_after, Admits}
use Rattle.hist_log.specs.History.{IsLegal, state_left}
use Rattle.trace_text.specs.declared.trace.TraceAct.{TraceAct}
use Rattle.trace_text.specs.declared.trace.TraceAct.TheVariants as does
use Rattle.trace_text.specs.declared.trace.TraceCall.{TraceCall}
use Rattle.trace_text.specs.declared.trace.Trace.{Trace}
use Rattle.trace_text.specs.Report.{Done}
use Rattle.trace_text.specs.Histories.{made_in, made_of}
use Rattle.trace_text.proofs.Answered.{operation_of}

-- the state admits the call, where it is one on the directory
abbrev pub MayDo : List ℕ → TraceAct → Type 0
MayDo state (does.Dir call) = Admits state (call_numbers call)
MayDo state (does.Attach policy) = Unit {0}

-- the empty directory that has room for the names of the trace, and calls left for its lines
abbrev pub directory_for : Trace → Directory
directory_for t = record { names = empty; next_number = 1; room = length t.names.items; spare = length t.calls.items }

-- from the start on, the calls have led to this history and this state
pub record Follows (start : List ℕ) (calls : List TraceCall) (history : List Done) (now : List ℕ) : Type 0 where
  pub legal : IsLegal reply_at state_after start (map operation_of history)
  pub left : now ≡ state_left state_after start (map operation_of history)
  pub made : map made_of history ≡ made_in calls
  pub admits : (call : List ℕ) → Admits start call → Admits now call
