-- Whether the writes of a trace prevail.
use Rattle.std.specs.Prelude.{◌*◌, ◌<◌, List, filter, length, not}
use Rattle.dir_table.specs.Meanings.{is_read}
use Rattle.trace_text.specs.declared.trace.Trace.{Trace}
use Rattle.trace_text.specs.declared.trace.TraceCall.{TraceCall}
use Rattle.trace_text.specs.Histories.{Made, made_in}

-- the calls on the directory that write
abbrev pub writes_in : List TraceCall → List Made
writes_in calls = filter (λ m. not (is_read m.call)) (made_in calls)

-- with a copy for each worker, the copies would make more writes than the trace has calls
abbrev pub DoWritesPrevail : Trace → Type 0
DoWritesPrevail t = length (made_in t.calls.items) < length (writes_in t.calls.items) * length t.workers.items
