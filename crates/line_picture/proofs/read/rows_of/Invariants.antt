use Rattle.std.proofs.Common.{◌≡◌, ◌≤◌, ◌+◌, [], vec_len, length, map}
use Rattle.doc_text.specs.Text.{pieces}
use Rattle.doc_text.specs.Faults.{section_from}
use Rattle.line_picture.specs.Reports.{row_said}
use Rattle.line_picture.specs.Grammar.{row_says}
use Rattle.line_picture.proofs.read.rows_of.Given as goal

abbrev pub invariant-loop-rest : goal.invariant-loop-rest
invariant-loop-rest l = record {
  read : section_from (row_says l.form l.passes) (λ _. 4) (map row_said l.rows.items) l.line (pieces l.rest) ≡ section_from (row_says l.form l.passes) (λ _. 4) [] 2 (pieces l.bytes);
  line : l.line ≡ 2 + vec_len l.rows;
  few : vec_len l.rows ≤ 65536;
}

abbrev pub decreases-loop-rest : goal.decreases-loop-rest
decreases-loop-rest l = length l.rest
