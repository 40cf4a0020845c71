use Rattle.std.proofs.Common.{◌≡◌, ◌≤◌, ◌+◌, [], vec_len, length}
use Rattle.doc_text.specs.Text.{pieces}
use Rattle.doc_text.specs.Faults.{section_from}
use Rattle.policy_text.specs.Sections.{attr_says, short_of}
use Rattle.policy_text.proofs.sections.attrs_of.Given as goal

abbrev pub invariant-loop-rest : goal.invariant-loop-rest
invariant-loop-rest l = record {
  read : section_from (attr_says l.section) (short_of l.section) l.attrs.items l.line (pieces l.rest) ≡ section_from (attr_says l.section) (short_of l.section) [] l.first (pieces l.bytes);
  line : l.line ≡ l.first + vec_len l.attrs;
  few : vec_len l.attrs ≤ l.section.most;
}

abbrev pub decreases-loop-rest : goal.decreases-loop-rest
decreases-loop-rest l = length l.rest
