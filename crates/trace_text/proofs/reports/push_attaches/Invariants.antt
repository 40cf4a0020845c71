use Rattle.std.proofs.Common.{◌≡◌, ◌++◌, drop, map}
use Rattle.std.specs.List.{flat_map}
use Rattle.doc_text.specs.Text.{ended}
use Rattle.trace_text.specs.Report.{attach_line}
use Rattle.trace_text.proofs.reports.push_attaches.Given as goal

abbrev pub invariant-loop-attach : goal.invariant-loop-attach
invariant-loop-attach l = l.out.items ++ flat_map ended (map (attach_line (map (λ p. p.name.items) l.policies)) (drop l.attach-index l.attaches)) ≡ l.initial.out.items ++ flat_map ended (map (attach_line (map (λ p. p.name.items) l.policies)) (l.attaches))
