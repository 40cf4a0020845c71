-- Lines one after the other, as the first walk reads them.
use Rattle.std.proofs.Common.{◌≡◌, ℕ, ◌+◌, List, [], ◌∷◌, ◌++◌, length, length-append, map, Bool, true, false, Option, Some, None, Result, Ok, Err, refl, sym, ap, ◌∙◌, append_assoc}
use Rattle.std.proofs.lemmas.List.{map-append, length-map}
use Rattle.bpf_isa.specs.declared.insn.Insn.{Insn}
use Rattle.bpf_isa.specs.declared.insn.Profile.{Profile}
use Rattle.bpf_isa.specs.Flow.{is_half}
use Rattle.bpf_asm.specs.declared.names.Mark.{Mark}
use Rattle.bpf_asm.specs.Assembly.{Line, slots_of, layout, declares, mark_of, lines_in}
use Rattle.bpf_asm.specs.Forms.{or_else}
use Rattle.bpf_asm.specs.Marks.{first_mark}
use Rattle.bpf_asm.specs.Statements.{line_in}
use Rattle.bpf_asm.specs.Views.{Says, line_of}
use Rattle.bpf_asm.specs.declared.statement.Statement.{Statement}
use Rattle.doc_text.specs.Text.{pieces}

-- the first line of bytes
pub first_line : (p : Profile) (rest piece behind : List ℕ) → pieces rest ≡ piece ∷ pieces behind → lines_in p rest ≡ line_in p piece ∷ lines_in p behind
first_line p rest piece behind e = ap (map (line_in p)) e

-- one line further, a name's mark is the one noted or that of the lines behind
pub marks_go_on : (name : List ℕ) (before after total : Option Mark) (line slot noted next : ℕ) (l : Line) (ls : List Line)
    → noted ≡ slot → next ≡ slot + length (slots_of l)
    → after ≡ first_mark before (declares name l) (record { line = line; slot = noted })
    → or_else before (mark_of name line slot (l ∷ ls)) ≡ total
    → or_else after (mark_of name (line + 1) next ls) ≡ total
unfolding mark_of
marks_go_on name (Some m) after total line slot noted next l ls n x e h = rw e h
marks_go_on name None after total line slot noted next l ls n x e h = rw (e, n, x) (by (declares name l) refl)
  where
    by : (d : Bool) → declares name l ≡ d → or_else (first_mark None d (record { line = line; slot = slot })) (mark_of name (line + 1) (slot + length (slots_of l)) ls) ≡ total
    by true d = sym (rw d refl) ∙ h
    by false d = sym (rw d refl) ∙ h

-- one line further, the slots are those noted and those of the lines behind
pub halves_go_on : (front after total : List Bool) (l : Line) (ls : List Line) → after ≡ front ++ map is_half (slots_of l)
    → front ++ map is_half (layout (l ∷ ls)) ≡ total → after ++ map is_half (layout ls) ≡ total
halves_go_on front after total l ls e h = rw e (append_assoc front (map is_half (slots_of l)) (map is_half (layout ls)) ∙ ap (λ (back : List Bool). front ++ back) (sym (map-append is_half (slots_of l) (layout ls))) ∙ h)

-- what was read of a line is what it says
pub is_said : (read : Result Statement ℕ) (due : Line) → Says read due → due ≡ line_of read
is_said (Ok s) due h = h
is_said (Err fault) due h = h

-- where no line is left, a name's mark is the one noted
pub marks_end : (name : List ℕ) (before total : Option Mark) (line slot : ℕ) → or_else before (mark_of name line slot []) ≡ total → before ≡ total
unfolding mark_of
marks_end name None total line slot h = h
marks_end name (Some m) total line slot h = h

pub more_slots : (front after : List Bool) (slots : List Insn) → after ≡ front ++ map is_half slots → length after ≡ length front + length slots
more_slots front after slots e = ap length e ∙ simp (length-append, length-map) refl
