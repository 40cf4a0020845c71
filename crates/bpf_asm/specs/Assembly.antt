-- Assembling: the slots of all lines, names resolved, or the first bad line and its lowest fault.
use Rattle.std.specs.Prelude.{ℕ, ℤ, pos, negsuc, ◌+◌, ◌-ℤ◌, List, [], ◌∷◌, ◌++◌, length, map, Bool, false, ◌&&◌, Option, Some, None, Result, Ok, Err, nat_le, nat_lt, ◌==◌, if◌then◌else◌}
use Rattle.std.specs.List.{flat_map}
use Rattle.bpf_isa.specs.declared.insn.Insn.{Insn}
use Rattle.bpf_isa.specs.declared.insn.Insn.TheVariants as insn
use Rattle.bpf_isa.specs.declared.insn.Profile.{Profile}
use Rattle.bpf_isa.specs.Flow.{insn_at, is_half, jump_offset, target}
use Rattle.bpf_asm.specs.declared.error.AsmError.{AsmError}
use Rattle.bpf_asm.specs.declared.error.AsmError.TheVariants as errors
use Rattle.bpf_asm.specs.declared.names.Mark.{Mark}
use Rattle.bpf_asm.specs.Statements.{Statement, with_offset, line_in}
use Rattle.doc_text.specs.Text.{pieces}
use Rattle.doc_text.specs.Words.{same}

-- a line as it was read: what it says, or its fault
abbrev pub Line : Type 0
Line = Result Statement ℕ

-- the slots that a line brings; a bad line brings none
abbrev pub slots_of : Line → List Insn
slots_of (Err fault) = []
slots_of (Ok (Statement.Name name)) = []
slots_of (Ok (Statement.Code insns)) = insns
slots_of (Ok (Statement.JumpTo x name)) = x ∷ []

-- the slots of all lines, the jumps to names without their offsets
abbrev pub layout : List Line → List Insn
layout lines = flat_map slots_of lines

-- the line declares the name
abbrev pub declares : List ℕ → Line → Bool
declares name (Err fault) = false
declares name (Ok (Statement.Name other)) = same other name
declares name (Ok (Statement.Code insns)) = false
declares name (Ok (Statement.JumpTo x other)) = false

-- the first line from this one on that declares the name
unfoldable pub mark_of : List ℕ → ℕ → ℕ → List Line → Option Mark
mark_of name line slot [] = None
mark_of name line slot (l ∷ ls) = if declares name l then Some (record { line = line; slot = slot }) else mark_of name (line + 1) (slot + length (slots_of l)) ls

-- the place is the second half of a wide load
abbrev pub half_at : List Insn → ℤ → Bool
half_at insns (pos slot) = nat_lt slot (length insns) && is_half (insn_at insns slot)
half_at insns (negsuc n) = false

-- the first of the instructions is a jump into a second half
abbrev pub into_half : List Insn → ℕ → Option ℤ → Bool
into_half insns slot None = false
into_half insns slot (Some off) = half_at insns (target slot off)

abbrev pub first_offset : List Insn → Option ℤ
first_offset [] = None
first_offset (x ∷ xs) = jump_offset x

-- slots that end within the 512 that a program may have
abbrev pub within : ℕ → List Insn → Result (List Insn) ℕ
within slot insns = if nat_le (slot + length insns) 512 then Ok insns else Err 8

-- a number of so many bits, as its magnitude below 0 and above
abbrev pub fits_short : ℤ → Bool
fits_short (pos n) = nat_lt n 0x8000
fits_short (negsuc n) = nat_lt n 0x8000

abbrev pub fits_long : ℤ → Bool
fits_long (pos n) = nat_lt n 0x80000000
fits_long (negsuc n) = nat_lt n 0x80000000

-- the offset is within the jump's field
abbrev pub fits : Insn → ℤ → Bool
fits (insn.GotoLong off) to = fits_long to
fits x to = fits_short to

-- the jump with this offset, where its field holds it
abbrev pub at_offset : Insn → ℤ → Option Insn
at_offset x to = if fits x to then Some (with_offset x to) else None

-- the jump with the offset that it needs, or a name too far away
abbrev pub reaching : ℕ → Option Insn → Result (List Insn) ℕ
reaching slot None = Err 6
reaching slot (Some x) = within slot (x ∷ [])

-- a jump of a slot to a named slot
abbrev pub jump_to : ℕ → Insn → Option Mark → Result (List Insn) ℕ
jump_to slot x None = Err 6
jump_to slot x (Some mark) = reaching slot (at_offset x (pos mark.slot -ℤ pos (slot + 1)))

-- a name where its first declaration stands; any other line that declares it is bad
abbrev pub name_at : ℕ → Option Mark → Result (List Insn) ℕ
name_at line None = Err 5
name_at line (Some mark) = if mark.line == line then Ok [] else Err 5

-- instructions whose jump, if they have one, leads into no second half of the layout
abbrev pub code_at : List Insn → ℕ → List Insn → Result (List Insn) ℕ
code_at insns slot code = if into_half insns slot (first_offset code) then Err 7 else within slot code

-- the slots of a line among all lines, or its lowest fault
abbrev pub slots_in : List Line → ℕ → ℕ → Line → Result (List Insn) ℕ
slots_in all line slot (Err fault) = Err fault
slots_in all line slot (Ok (Statement.Name name)) = name_at line (mark_of name 1 0 all)
slots_in all line slot (Ok (Statement.Code code)) = code_at (layout all) slot code
slots_in all line slot (Ok (Statement.JumpTo x name)) = jump_to slot x (mark_of name 1 0 all)

abbrev pub in_front : List Insn → Result (List Insn) AsmError → Result (List Insn) AsmError
in_front here (Ok others) = Ok (here ++ others)
in_front here (Err e) = Err e

-- the slots of a line in front of those behind it, or the first fault
abbrev pub followed : ℕ → Result (List Insn) ℕ → (List Insn → Result (List Insn) AsmError) → Result (List Insn) AsmError
followed line (Err fault) others = Err (errors.Format line fault)
followed line (Ok here) others = in_front here (others here)

-- the slots of all lines from this one on
unfoldable pub slots_from : List Line → ℕ → ℕ → List Line → Result (List Insn) AsmError
slots_from all line slot [] = Ok []
slots_from all line slot (l ∷ ls) = followed line (slots_in all line slot l) (λ here. slots_from all (line + 1) (slot + length here) ls)

-- there is an instruction at all; where there is none, the line behind the last one is bad
abbrev pub some_slots : ℕ → Result (List Insn) AsmError → Result (List Insn) AsmError
some_slots line (Ok []) = Err (errors.Format line 9)
some_slots line (Ok (x ∷ xs)) = Ok (x ∷ xs)
some_slots line (Err e) = Err e

-- what the lines of a text say
abbrev pub lines_in : Profile → List ℕ → List Line
lines_in p text = map (line_in p) (pieces text)

-- the instructions of a text, or the first bad line and its lowest fault
abbrev pub assembly : Profile → List ℕ → Result (List Insn) AsmError
assembly p text = some_slots (length (pieces text) + 1) (slots_from (lines_in p text) 1 0 (lines_in p text))
