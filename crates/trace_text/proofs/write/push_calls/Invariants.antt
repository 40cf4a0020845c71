use Rattle.std.proofs.Common.{◌≡◌, ◌++◌, drop, map}
use Rattle.std.specs.List.{flat_map}
use Rattle.doc_text.specs.Text.{ended}
use Rattle.trace_text.specs.Spelling.{call_line}
use Rattle.trace_text.specs.Traces.{call_of}
use Rattle.trace_text.proofs.write.push_calls.Given as goal

abbrev pub invariant-loop-call : goal.invariant-loop-call
invariant-loop-call l = l.out.items ++ flat_map ended (map call_line (map (call_of (map (λ n. n.items) l.names) (map (λ p. p.name.items) l.policies)) (drop l.call-index l.calls))) ≡ l.initial.out.items ++ flat_map ended (map call_line (map (call_of (map (λ n. n.items) l.names) (map (λ p. p.name.items) l.policies)) l.calls))
