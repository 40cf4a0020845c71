use Rattle.std.proofs.Common.{◌≡◌, ℕ, ◌≤◌, List, ◌++◌, length, drop, sym, ap, ◌∙◌, arith, append-nil}
use Rattle.std.proofs.lemmas.List.{at_drop_all}
use Rattle.std.proofs.lemmas.List.Elements.{All-same}
use Rattle.dir_table.specs.declared.calls.DirCall.{DirCall}
use Rattle.dir_table.specs.Meanings.{IsAdmitted}
use Rattle.trace_text.specs.declared.trace.TraceCall.{TraceCall}
use Rattle.pool_text.specs.PoolDocuments.{calls_of}
use Rattle.pool_text.proofs.CallsOf.{few_calls, admitted_calls}
use Rattle.pool_text.proofs.calls.dir_calls.Goals as goal

all_taken : (items : List DirCall) (cs : List TraceCall) (i : ℕ) → length cs ≤ i → items ++ calls_of (drop i cs) ≡ calls_of cs → items ≡ calls_of cs
all_taken items cs i whole same = sym (append-nil items) ∙ (ap (λ l. items ++ l) (sym (at_drop_all calls_of cs i whole)) ∙ same)

pub returns-clause-few : goal.returns-clause-few
returns-clause-few c =
    let cs = c.args.trace.now.calls.items in
    let same = ap length (all_taken c.loop-call.calls.items cs c.loop-call.call-index (omega arith) c.loop-call.invariant) in
    let few = few_calls cs in omega (arith, same, few, c.loop-call.calls.ok.0)

pub returns-clause-admitted : goal.returns-clause-admitted
returns-clause-admitted c =
    let t = c.args.trace.now in
    All-same (IsAdmitted (length t.names.items)) c.loop-call.calls.items (calls_of t.calls.items)
    (all_taken c.loop-call.calls.items t.calls.items c.loop-call.call-index (omega arith) c.loop-call.invariant)
    (admitted_calls (length t.workers.items) (length t.names.items) (length t.policies.items) t.calls.items c.requires.calls)
