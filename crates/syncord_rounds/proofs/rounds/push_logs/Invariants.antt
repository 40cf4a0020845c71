use Rattle.std.proofs.Common.{◌≡◌, ◌++◌, drop, map}
use Rattle.std.specs.List.{flat_map}
use Rattle.doc_text.specs.Text.{ended}
use Rattle.syncord_rounds.specs.Rounds.{log_lines, notes_in}
use Rattle.syncord_rounds.proofs.rounds.push_logs.Given as goal

abbrev pub invariant-loop-worker : goal.invariant-loop-worker
invariant-loop-worker l = l.out.items ++ flat_map ended (log_lines (map (λ p. p.name.items) l.policies) l.worker (map notes_in (drop l.worker l.logs))) ≡ l.initial.out.items ++ flat_map ended (log_lines (map (λ p. p.name.items) l.policies) 0 (map notes_in l.logs))
