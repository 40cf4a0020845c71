-- The calls of a trace: no more than it has call lines, and each of names and directories that there are.
use Rattle.std.proofs.Common.{ℕ, ◌≤◌, List, [], ◌∷◌, length, arith, length-append}
use Rattle.std.specs.List.{All, AllByRecursion}
use Rattle.std.proofs.lemmas.List.Elements.{All-nil, All-cons, All-append}
use Rattle.dir_table.specs.Meanings.{IsAdmitted}
use Rattle.trace_text.specs.declared.trace.TraceAct.{TraceAct}
use Rattle.trace_text.specs.declared.trace.TraceAct.TheVariants as does
use Rattle.trace_text.specs.declared.trace.TraceCall.{TraceCall}
use Rattle.trace_text.specs.Traces.{IsActOf, IsCallOf}
use Rattle.pool_text.specs.PoolDocuments.{calls_by, calls_of}

one_call : (act : TraceAct) → length (calls_by act) ≤ 1
one_call (does.Dir call) = omega arith
one_call (does.Attach policy) = omega arith

pub few_calls : (cs : List TraceCall) → length (calls_of cs) ≤ length cs
few_calls [] = omega arith
few_calls (c ∷ cs) =
    let one = one_call c.act in
    let others = few_calls cs in
    let sum = length-append (calls_by c.act) (calls_of cs) in omega (arith, one, others, sum)

admitted_by : (names policies worker : ℕ) (act : TraceAct) → IsActOf names policies worker act → All (IsAdmitted names) (calls_by act)
admitted_by names policies worker (does.Dir call) is = All-cons (IsAdmitted names) call [] is (All-nil (IsAdmitted names))
admitted_by names policies worker (does.Attach policy) is = All-nil (IsAdmitted names)

pub admitted_calls : (workers names policies : ℕ) (cs : List TraceCall) → AllByRecursion (IsCallOf workers names policies) cs → All (IsAdmitted names) (calls_of cs)
admitted_calls workers names policies [] all = All-nil (IsAdmitted names)
admitted_calls workers names policies (c ∷ cs) all = All-append (IsAdmitted names) (calls_by c.act) (calls_of cs)
    (admitted_by names policies c.worker c.act all.0.act) (admitted_calls workers names policies cs all.1)
