use Rattle.std.proofs.Common.{◌≡◌, ◌++◌, drop, map}
use Rattle.std.specs.List.{flat_map}
use Rattle.doc_text.specs.Text.{ended}
use Rattle.syncord_rounds.specs.Rounds.{note_line}
use Rattle.syncord_rounds.proofs.rounds.push_notes.Given as goal

abbrev pub invariant-loop-note : goal.invariant-loop-note
invariant-loop-note l = l.out.items ++ flat_map ended (map (note_line (map (λ p. p.name.items) l.policies) l.worker) (drop l.note-index l.notes)) ≡ l.initial.out.items ++ flat_map ended (map (note_line (map (λ p. p.name.items) l.policies) l.worker) l.notes)
