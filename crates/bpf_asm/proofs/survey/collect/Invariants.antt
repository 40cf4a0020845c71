use Rattle.std.proofs.Common.{◌≡◌, ◌+◌, ◌*◌, ◌≤◌, ◌++◌, ℕ, List, length, map}
use Rattle.bpf_isa.specs.Flow.{is_half}
use Rattle.bpf_asm.specs.Assembly.{layout, mark_of, lines_in}
use Rattle.bpf_asm.specs.Forms.{or_else}
use Rattle.bpf_asm.specs.Marks.{first_again, marked_in}
use Rattle.bpf_asm.specs.Names.{mark_in, first_repeat, AreDeclared}
use Rattle.bpf_asm.proofs.survey.collect.Given as goal

abbrev pub invariant-loop-rest : goal.invariant-loop-rest
invariant-loop-rest l = record {
  marks : (name : List ℕ) → or_else (mark_in l.names.items name) (mark_of name l.line (length l.halves.items) (lines_in l.profile l.rest)) ≡ mark_of name 1 0 (lines_in l.profile l.text);
  halves : l.halves.items ++ map is_half (layout (lines_in l.profile l.rest)) ≡ map is_half (layout (lines_in l.profile l.text));
  again : or_else (first_repeat (marked_in (lines_in l.profile l.text)) l.names.items) (first_again (marked_in (lines_in l.profile l.text)) l.line (lines_in l.profile l.rest)) ≡ first_again (marked_in (lines_in l.profile l.text)) 1 (lines_in l.profile l.text);
  declared : AreDeclared 1 l.names.items l.line;
  lines : l.line + length l.rest ≤ 1 + length l.text;
  slots : length l.halves.items + 2 * length l.rest ≤ 2 * length l.text;
}

abbrev pub decreases-loop-rest : goal.decreases-loop-rest
decreases-loop-rest l = length l.rest
