-- The one text without names that stands for instructions.
use Rattle.std.specs.Prelude.{ℕ, ℤ, ◌+◌, ◌*◌, ◌^◌, List, [], ◌∷◌, ◌++◌, codes}
use Rattle.std.specs.Fmt.{decimal, signed_decimal}
use Rattle.std.specs.Int.{w32, cast_unsigned}
use Rattle.std.specs.List.{flat_map}
use Rattle.bpf_isa.specs.declared.insn.AluOp.{AluOp}
use Rattle.bpf_isa.specs.declared.insn.AluOp.TheVariants as alu
use Rattle.bpf_isa.specs.declared.insn.Cond.{Cond}
use Rattle.bpf_isa.specs.declared.insn.Cond.TheVariants as condition
use Rattle.bpf_isa.specs.declared.insn.Insn.{Insn}
use Rattle.bpf_isa.specs.declared.insn.Insn.TheVariants as insn
use Rattle.bpf_isa.specs.declared.insn.Operand.{Operand}
use Rattle.bpf_isa.specs.declared.insn.Operand.TheVariants as operand
use Rattle.bpf_isa.specs.declared.insn.Order.{Order}
use Rattle.bpf_isa.specs.declared.insn.Order.TheVariants as order
use Rattle.bpf_isa.specs.declared.insn.Size.{Size}
use Rattle.bpf_isa.specs.declared.insn.Size.TheVariants as size
use Rattle.bpf_isa.specs.declared.insn.Width.{Width}
use Rattle.bpf_isa.specs.declared.insn.Width.TheVariants as width
use Rattle.doc_text.specs.Text.{ended}
use Rattle.doc_text.specs.Words.{spaced}

abbrev pub operation_name : AluOp → List ℕ
operation_name alu.Add = codes "add"
operation_name alu.Sub = codes "sub"
operation_name alu.Mul = codes "mul"
operation_name alu.Div = codes "div"
operation_name alu.Or = codes "or"
operation_name alu.And = codes "and"
operation_name alu.Lsh = codes "lsh"
operation_name alu.Rsh = codes "rsh"
operation_name alu.Mod = codes "mod"
operation_name alu.Xor = codes "xor"
operation_name alu.Mov = codes "mov"
operation_name alu.Arsh = codes "arsh"

abbrev pub condition_name : Cond → List ℕ
condition_name condition.Eq = codes "jeq"
condition_name condition.Gt = codes "jgt"
condition_name condition.Ge = codes "jge"
condition_name condition.Set = codes "jset"
condition_name condition.Ne = codes "jne"
condition_name condition.Sgt = codes "jsgt"
condition_name condition.Sge = codes "jsge"
condition_name condition.Lt = codes "jlt"
condition_name condition.Le = codes "jle"
condition_name condition.Slt = codes "jslt"
condition_name condition.Sle = codes "jsle"

abbrev pub width_name : Width → List ℕ
width_name width.W32 = codes "32"
width_name width.W64 = codes "64"

abbrev pub load_name : Size → List ℕ
load_name size.B = codes "ldb"
load_name size.H = codes "ldh"
load_name size.W = codes "ldw"
load_name size.DW = codes "lddw"

-- there is no such load of eight bytes
abbrev pub signed_load_name : Size → List ℕ
signed_load_name size.B = codes "ldsb"
signed_load_name size.H = codes "ldsh"
signed_load_name size.W = codes "ldsw"
signed_load_name size.DW = codes "ldsdw"

abbrev pub swap_name : Order → List ℕ
swap_name order.Little = codes "le"
swap_name order.Big = codes "be"
swap_name order.Swap = codes "swap"

abbrev pub register_text : ℕ → List ℕ
register_text register = 114 ∷ decimal register

abbrev pub source_text : Operand → List ℕ
source_text (operand.Reg register) = register_text register
source_text (operand.Imm n) = signed_decimal n

-- the number of 64 bits that two halves make, both without a sign
abbrev pub wide_number : ℤ → ℤ → ℕ
wide_number low high = cast_unsigned w32 high * 2 ^ 32 + cast_unsigned w32 low

-- the words of an instruction's line; a second half has no line
abbrev pub words_of : Insn → List (List ℕ)
words_of (insn.Alu w op dst src) = (operation_name op ++ width_name w) ∷ register_text dst ∷ source_text src ∷ []
words_of (insn.Neg w dst) = (codes "neg" ++ width_name w) ∷ register_text dst ∷ []
words_of (insn.Load s dst src off) = load_name s ∷ register_text dst ∷ register_text src ∷ signed_decimal off ∷ []
words_of (insn.Wide dst low high) = codes "wide" ∷ register_text dst ∷ decimal (wide_number low high) ∷ []
words_of insn.Half = []
words_of (insn.Goto off) = codes "ja" ∷ signed_decimal off ∷ []
words_of (insn.GotoLong off) = codes "jal" ∷ signed_decimal off ∷ []
words_of (insn.Jump w c dst src off) = (condition_name c ++ width_name w) ∷ register_text dst ∷ source_text src ∷ signed_decimal off ∷ []
words_of insn.Exit = codes "exit" ∷ []
words_of (insn.LoadSigned s dst src off) = signed_load_name s ∷ register_text dst ∷ register_text src ∷ signed_decimal off ∷ []
words_of (insn.MovSigned w bits dst src) = (codes "movsx" ++ width_name w) ∷ decimal bits ∷ register_text dst ∷ register_text src ∷ []
words_of (insn.Swap o bits dst) = swap_name o ∷ decimal bits ∷ register_text dst ∷ []

-- the line of an instruction; a second half has none
abbrev pub line_text : Insn → List ℕ
line_text insn.Half = []
line_text x = ended (spaced (words_of x))

abbrev pub disassembly : List Insn → List ℕ
disassembly insns = flat_map line_text insns
