-- What a line says: a name for a slot, or the instructions of its slots, a jump to a name among them.
use Rattle.std.specs.Prelude.{ℕ, ℤ, pos, ◌/◌, ◌%◌, ◌^◌, List, [], ◌∷◌, Bool, true, false, ◌&&◌, Option, Some, None, Result, Ok, Err, ◌==◌, codes, if◌then◌else◌}
use Rattle.std.specs.Int.{w32, cast_signed}
use Rattle.bpf_isa.specs.declared.insn.AluOp.{AluOp}
use Rattle.bpf_isa.specs.declared.insn.Cond.{Cond}
use Rattle.bpf_isa.specs.declared.insn.Order.{Order}
use Rattle.bpf_isa.specs.declared.insn.Size.{Size}
use Rattle.bpf_isa.specs.declared.insn.Insn.{Insn}
use Rattle.bpf_isa.specs.declared.insn.Insn.TheVariants as insn
use Rattle.bpf_isa.specs.declared.insn.Profile.{Profile}
use Rattle.bpf_isa.specs.declared.insn.Width.{Width}
use Rattle.bpf_isa.specs.declared.insn.Width.TheVariants as width
use Rattle.bpf_asm.specs.declared.form.Form.{Form}
use Rattle.bpf_asm.specs.declared.form.Form.TheVariants as form
use Rattle.bpf_isa.specs.Checks.{◌>>=◌}
use Rattle.bpf_asm.specs.Faults.{no_form, both, found}
use Rattle.bpf_asm.specs.Forms.{form_of}
use Rattle.bpf_asm.specs.Operands.{register_in, source_in, short_in, long_in, wide_in, is_name, Place, place_in}
use Rattle.doc_text.specs.Text.{text_in}
use Rattle.doc_text.specs.Words.{words, same, one, two, three}

pub data Statement : Type 0 where
  -- names the next slot
  Name : List ℕ → Statement
  -- the instructions of its slots
  Code : List Insn → Statement
  -- a jump whose offset is still 0, and the name that it leads to
  JumpTo : Insn → List ℕ → Statement

abbrev pub no_words : List (List ℕ) → Bool
no_words [] = true
no_words ws = false

-- the jump of 16 bits with this offset
abbrev pub with_short : Insn → ℤ → Insn
with_short (insn.Goto off) to = insn.Goto to
with_short (insn.Jump w c dst src off) to = insn.Jump w c dst src to
with_short x to = x

-- the jump with this offset
abbrev pub with_offset : Insn → ℤ → Insn
with_offset (insn.GotoLong off) to = insn.GotoLong to
with_offset x to = with_short x to

abbrev pub jump : Insn → Place → Statement
jump x (Place.By off) = Statement.Code (with_offset x off ∷ [])
jump x (Place.To name) = Statement.JumpTo x name

-- the halves of a number of 64 bits, each as a signed number of 32
abbrev pub wide_slots : ℕ → ℕ → List Insn
wide_slots dst n = insn.Wide dst (cast_signed w32 (n % 2 ^ 32)) (cast_signed w32 (n / 2 ^ 32)) ∷ insn.Half ∷ []

-- how many bits a move may extend
abbrev pub extension_named : Width → List ℕ → Option ℕ
extension_named width.W32 word = if same word (codes "8") then Some 8 else if same word (codes "16") then Some 16 else None
extension_named width.W64 word = if same word (codes "8") then Some 8 else if same word (codes "16") then Some 16 else if same word (codes "32") then Some 32 else None

-- how many bits a byte swap may have
abbrev pub swap_named : List ℕ → Option ℕ
swap_named word = if same word (codes "16") then Some 16 else if same word (codes "32") then Some 32 else if same word (codes "64") then Some 64 else None

-- two words that are a register each
abbrev pub registers_in : List ℕ → List ℕ → Result (ℕ × ℕ) ℕ
registers_in dst src = both (register_in dst) (register_in src)

-- what the words behind the first one say of each form
abbrev pub alu_in : Width → AluOp → List (List ℕ) → Result Insn ℕ
alu_in w op ws = found (two ws) (λ a. both (register_in a.0) (source_in a.1) >>= λ r. Ok (insn.Alu w op r.0 r.1))

abbrev pub neg_in : Width → List (List ℕ) → Result Insn ℕ
neg_in w ws = found (one ws) (λ a. register_in a >>= λ dst. Ok (insn.Neg w dst))

abbrev pub load_in : Size → List (List ℕ) → Result Insn ℕ
load_in s ws = found (three ws) (λ a. both (registers_in a.0 a.1) (short_in a.2) >>= λ r. Ok (insn.Load s r.0.0 r.0.1 r.1))

abbrev pub signed_load_in : Size → List (List ℕ) → Result Insn ℕ
signed_load_in s ws = found (three ws) (λ a. both (registers_in a.0 a.1) (short_in a.2) >>= λ r. Ok (insn.LoadSigned s r.0.0 r.0.1 r.1))

abbrev pub mov_signed_in : Width → List (List ℕ) → Result Insn ℕ
mov_signed_in w ws = found (three ws) (λ a. found (extension_named w a.0) (λ bits. registers_in a.1 a.2 >>= λ r. Ok (insn.MovSigned w bits r.0 r.1)))

abbrev pub swap_in : Order → List (List ℕ) → Result Insn ℕ
swap_in o ws = found (two ws) (λ a. found (swap_named a.0) (λ bits. register_in a.1 >>= λ dst. Ok (insn.Swap o bits dst)))

abbrev pub exit_in : List (List ℕ) → Result Insn ℕ
exit_in ws = if no_words ws then Ok insn.Exit else Err no_form

abbrev pub wide_load_in : List (List ℕ) → Result Statement ℕ
wide_load_in ws = found (two ws) (λ a. both (register_in a.0) (wide_in a.1) >>= λ r. Ok (Statement.Code (wide_slots r.0 r.1)))

abbrev pub goto_in : List (List ℕ) → Result Statement ℕ
goto_in ws = found (one ws) (λ a. place_in short_in a >>= λ place. Ok (jump (insn.Goto (pos 0)) place))

abbrev pub goto_long_in : List (List ℕ) → Result Statement ℕ
goto_long_in ws = found (one ws) (λ a. place_in long_in a >>= λ place. Ok (jump (insn.GotoLong (pos 0)) place))

abbrev pub jump_in : Width → Cond → List (List ℕ) → Result Statement ℕ
jump_in w c ws = found (three ws) (λ a. both (both (register_in a.0) (source_in a.1)) (place_in short_in a.2) >>= λ r. Ok (jump (insn.Jump w c r.0.0 r.0.1 (pos 0)) r.1))

abbrev pub one_slot : Result Insn ℕ → Result Statement ℕ
one_slot read = read >>= λ x. Ok (Statement.Code (x ∷ []))

unfoldable pub of_form : Form → List (List ℕ) → Result Statement ℕ
of_form (form.Alu w op) ws = one_slot (alu_in w op ws)
of_form (form.Neg w) ws = one_slot (neg_in w ws)
of_form (form.Load s) ws = one_slot (load_in s ws)
of_form form.Wide ws = wide_load_in ws
of_form form.Goto ws = goto_in ws
of_form form.GotoLong ws = goto_long_in ws
of_form (form.Jump w c) ws = jump_in w c ws
of_form form.Exit ws = one_slot (exit_in ws)
of_form (form.LoadSigned s) ws = one_slot (signed_load_in s ws)
of_form (form.MovSigned w) ws = one_slot (mov_signed_in w ws)
of_form (form.Swap o) ws = one_slot (swap_in o ws)

-- a name behind a colon, alone on its line
abbrev pub name_in : List ℕ → List (List ℕ) → Result Statement ℕ
name_in name ws = if no_words ws && is_name name then Ok (Statement.Name name) else Err no_form

-- what the words of a line say
abbrev pub line_says : Profile → List (List ℕ) → Result Statement ℕ
line_says p [] = Err no_form
line_says p ([] ∷ ws) = Err no_form
line_says p ((b ∷ bs) ∷ ws) = if b == 58 then name_in bs ws else found (form_of p (b ∷ bs)) (λ f. of_form f ws)

-- a line that is no text with a line feed is fault 1
abbrev pub or_unfinished : Option (List ℕ) → Result (List ℕ) ℕ
or_unfinished None = Err 1
or_unfinished (Some text) = Ok text

-- what a line says, or its lowest fault of 1 to 4
unfoldable pub line_in : Profile → List ℕ → Result Statement ℕ
line_in p piece = or_unfinished (text_in piece) >>= λ text. line_says p (words text)
