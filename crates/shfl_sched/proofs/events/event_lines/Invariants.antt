use Rattle.std.proofs.Common.{◌≡◌, ◌≤◌, ◌+◌, [], vec_len, length}
use Rattle.doc_text.specs.Text.{pieces}
use Rattle.doc_text.specs.Faults.{lines_from}
use Rattle.shfl_sched.specs.Grammar.{event_says}
use Rattle.shfl_sched.proofs.events.event_lines.Given as goal

abbrev pub invariant-loop-rest : goal.invariant-loop-rest
invariant-loop-rest l = record {
  read : lines_from (event_says l.form l.passes) l.events.items l.line (pieces l.rest) ≡ lines_from (event_says l.form l.passes) [] l.first (pieces l.bytes);
  line : l.line ≡ l.first + vec_len l.events;
  few : vec_len l.events ≤ 65536;
}

abbrev pub decreases-loop-rest : goal.decreases-loop-rest
decreases-loop-rest l = length l.rest
