use Rattle.std.proofs.Common.{◌≡◌, ◌++◌, drop, map}
use Rattle.std.specs.List.{flat_map}
use Rattle.doc_text.specs.Text.{ended}
use Rattle.trace_text.specs.Spelling.{worker_line}
use Rattle.trace_text.proofs.write.push_workers.Given as goal

abbrev pub invariant-loop-attr : goal.invariant-loop-attr
invariant-loop-attr l = l.out.items ++ flat_map ended (map worker_line (drop l.attr-index l.workers)) ≡ l.initial.out.items ++ flat_map ended (map worker_line l.workers)
