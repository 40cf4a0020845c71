-- Where instructions lead.
use Rattle.std.specs.Prelude.{ℕ, ℤ, pos, ◌+◌, ◌+ℤ◌, List, [], ◌∷◌, Bool, true, false, Option, Some, None, slice_index_or}
use Rattle.bpf_isa.specs.declared.insn.Insn.{Insn}
use Rattle.bpf_isa.specs.declared.insn.Insn.TheVariants as insn

-- the instruction of a slot; past the end there are only second halves
abbrev pub insn_at : List Insn → ℕ → Insn
insn_at insns slot = slice_index_or insns slot insn.Half

abbrev pub is_half : Insn → Bool
is_half insn.Half = true
is_half x = false

abbrev pub is_wide : Insn → Bool
is_wide (insn.Wide dst low high) = true
is_wide x = false

-- how many slots a jump skips
abbrev pub jump_offset : Insn → Option ℤ
jump_offset (insn.Goto off) = Some off
jump_offset (insn.GotoLong off) = Some off
jump_offset (insn.Jump width cond dst src off) = Some off
jump_offset x = None

-- the place that an offset names: so many slots from the slot after this one, in full width
abbrev pub target : ℕ → ℤ → ℤ
target slot off = pos (slot + 1) +ℤ off

-- the places that the instruction of a slot may lead to, its jump first; a wide load leads over its second half
abbrev pub edges : ℕ → Insn → List ℤ
edges slot (insn.Goto off) = target slot off ∷ []
edges slot (insn.GotoLong off) = target slot off ∷ []
edges slot (insn.Jump width cond dst src off) = target slot off ∷ pos (slot + 1) ∷ []
edges slot (insn.Wide dst low high) = pos (slot + 2) ∷ []
edges slot insn.Exit = []
edges slot insn.Half = []
edges slot x = pos (slot + 1) ∷ []
