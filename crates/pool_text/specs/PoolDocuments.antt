-- Which traces may stand in a pool, and the calls that then stand there.
use Rattle.std.specs.Prelude.{ℕ, ◌+◌, List, [], ◌∷◌, ◌++◌, map, length, Bool, true, false, Option, Some, None, nat_le, if◌then◌else◌}
use Rattle.doc_text.specs.declared.fault.Fault.{Fault}
use Rattle.dir_table.specs.declared.calls.DirCall.{DirCall}
use Rattle.trace_text.specs.declared.trace.TraceAct.{TraceAct}
use Rattle.trace_text.specs.declared.trace.TraceAct.TheVariants as does
use Rattle.trace_text.specs.declared.trace.TraceCall.{TraceCall}
use Rattle.trace_text.specs.Document.{Document}
use Rattle.trace_text.specs.Lines.{is_attach}
use Rattle.pool_text.specs.declared.calls.TheConstants.{OVER, ATTACH}

-- the number of the first call line: the heading, the workers, the policies and the line `calls` stand before it
abbrev pub first_call_line : Document → ℕ
first_call_line d = d.version + length d.workers + length d.policies + 2

-- Of call lines from this line on, so many others before them, each told by whether it attaches a policy: the first bad one.
-- The 4,097th is fault 16, and one that attaches is fault 17.
abbrev pub fault_from : ℕ → ℕ → List Bool → Option Fault
fault_from before line [] = None
fault_from before line (attaches ∷ others) =
    if nat_le 4096 before then Some (record { line = line; what = OVER })
    else if attaches then Some (record { line = line; what = ATTACH })
    else fault_from (before + 1) (line + 1) others

-- the fault of a trace whose call lines are to stand in a pool
abbrev pub pool_fault : Document → Option Fault
pool_fault d = fault_from 0 (first_call_line d) (map (λ c. is_attach c.act) d.calls)

-- a call on the directory; an attachment is none
abbrev pub calls_by : TraceAct → List DirCall
calls_by (does.Dir call) = call ∷ []
calls_by (does.Attach policy) = []

-- the calls on the directory, whoever is named in their lines
abbrev pub calls_of : List TraceCall → List DirCall
calls_of [] = []
calls_of (c ∷ cs) = calls_by c.act ++ calls_of cs
