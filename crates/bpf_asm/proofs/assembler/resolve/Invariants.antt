use Rattle.std.proofs.Common.{◌≡◌, ◌+◌, ◌≤◌, length}
use Rattle.bpf_asm.specs.Assembly.{in_front, slots_from, lines_in}
use Rattle.bpf_asm.specs.Marks.{first_again, marked_in}
use Rattle.doc_text.specs.Text.{pieces}
use Rattle.bpf_asm.proofs.assembler.resolve.Given as goal

abbrev pub invariant-loop-rest : goal.invariant-loop-rest
invariant-loop-rest l = record {
  slots : in_front l.insns.items (slots_from (lines_in l.profile l.text) l.line (length l.insns.items) (lines_in l.profile l.rest)) ≡ slots_from (lines_in l.profile l.text) 1 0 (lines_in l.profile l.text);
  again : l.again ≡ first_again (marked_in (lines_in l.profile l.text)) l.line (lines_in l.profile l.rest);
  lines : l.line + length (pieces l.rest) ≡ length (pieces l.text) + 1;
  fits : l.line + length l.rest ≤ 1 + length l.text;
  few : length l.insns.items ≤ 512;
}

abbrev pub decreases-loop-rest : goal.decreases-loop-rest
decreases-loop-rest l = length l.rest
