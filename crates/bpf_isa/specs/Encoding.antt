-- Encoding: the bytes of instructions.
use Rattle.std.specs.Prelude.{ℕ, ℤ, pos, ◌+◌, ◌*◌, List, [], ◌++◌}
use Rattle.std.specs.List.{flat_map}
use Rattle.bpf_isa.specs.declared.insn.AluOp.{AluOp}
use Rattle.bpf_isa.specs.declared.insn.AluOp.TheVariants as alu
use Rattle.bpf_isa.specs.declared.insn.Cond.{Cond}
use Rattle.bpf_isa.specs.declared.insn.Cond.TheVariants as condition
use Rattle.bpf_isa.specs.declared.insn.Insn.{Insn}
use Rattle.bpf_isa.specs.declared.insn.Insn.TheVariants as insn
use Rattle.bpf_isa.specs.declared.insn.Operand.{Operand}
use Rattle.bpf_isa.specs.declared.insn.Operand.TheVariants as operand
use Rattle.bpf_isa.specs.declared.insn.Order.{Order}
use Rattle.bpf_isa.specs.declared.insn.Order.TheVariants as order
use Rattle.bpf_isa.specs.declared.insn.Size.{Size}
use Rattle.bpf_isa.specs.declared.insn.Size.TheVariants as size
use Rattle.bpf_isa.specs.declared.insn.Width.{Width}
use Rattle.bpf_isa.specs.declared.insn.Width.TheVariants as width
use Rattle.bpf_isa.specs.declared.raw.Raw.{Raw}
use Rattle.bpf_isa.specs.Slots.{slot_bytes}

abbrev pub alu_code : AluOp → ℕ
alu_code alu.Add = 0x0
alu_code alu.Sub = 0x1
alu_code alu.Mul = 0x2
alu_code alu.Div = 0x3
alu_code alu.Or = 0x4
alu_code alu.And = 0x5
alu_code alu.Lsh = 0x6
alu_code alu.Rsh = 0x7
alu_code alu.Mod = 0x9
alu_code alu.Xor = 0xa
alu_code alu.Mov = 0xb
alu_code alu.Arsh = 0xc

abbrev pub condition_code : Cond → ℕ
condition_code condition.Eq = 0x1
condition_code condition.Gt = 0x2
condition_code condition.Ge = 0x3
condition_code condition.Set = 0x4
condition_code condition.Ne = 0x5
condition_code condition.Sgt = 0x6
condition_code condition.Sge = 0x7
condition_code condition.Lt = 0xa
condition_code condition.Le = 0xb
condition_code condition.Slt = 0xc
condition_code condition.Sle = 0xd

-- the class of arithmetic, in the low three bits of its opcodes
abbrev pub alu_class : Width → ℕ
alu_class width.W32 = 4
alu_class width.W64 = 7

-- the class of jumps
abbrev pub jump_class : Width → ℕ
jump_class width.W32 = 6
jump_class width.W64 = 5

abbrev pub load_opcode : Size → ℕ
load_opcode size.B = 0x71
load_opcode size.H = 0x69
load_opcode size.W = 0x61
load_opcode size.DW = 0x79

-- there is no such load of eight bytes
abbrev pub signed_load_opcode : Size → ℕ
signed_load_opcode size.B = 0x91
signed_load_opcode size.H = 0x89
signed_load_opcode size.W = 0x81
signed_load_opcode size.DW = 0x99

abbrev pub swap_opcode : Order → ℕ
swap_opcode order.Little = 0xd4
swap_opcode order.Big = 0xdc
swap_opcode order.Swap = 0xd7

abbrev pub raw : ℕ → ℕ → ℕ → ℤ → ℤ → Raw
raw op dst src off imm = record { op = op; dst = dst; src = src; off = off; imm = imm }

-- the fields of a slot whose second operand is a register, which bit 3 of the opcode says, or a number
abbrev pub operand_raw : ℕ → ℕ → Operand → ℤ → Raw
operand_raw op dst (operand.Reg src) off = raw (op + 8) dst src off (pos 0)
operand_raw op dst (operand.Imm imm) off = raw op dst 0 off imm

-- the fields of an instruction's slot
abbrev pub raw_of : Insn → Raw
raw_of (insn.Alu w op dst src) = operand_raw (16 * alu_code op + alu_class w) dst src (pos 0)
raw_of (insn.Neg w dst) = raw (0x80 + alu_class w) dst 0 (pos 0) (pos 0)
raw_of (insn.Load s dst src off) = raw (load_opcode s) dst src off (pos 0)
raw_of (insn.Wide dst low high) = raw 0x18 dst 0 (pos 0) low
raw_of insn.Half = raw 0 0 0 (pos 0) (pos 0)
raw_of (insn.Goto off) = raw 0x05 0 0 off (pos 0)
raw_of (insn.GotoLong off) = raw 0x06 0 0 (pos 0) off
raw_of (insn.Jump w c dst src off) = operand_raw (16 * condition_code c + jump_class w) dst src off
raw_of insn.Exit = raw 0x95 0 0 (pos 0) (pos 0)
raw_of (insn.LoadSigned s dst src off) = raw (signed_load_opcode s) dst src off (pos 0)
raw_of (insn.MovSigned w bits dst src) = raw (0xb8 + alu_class w) dst src (pos bits) (pos 0)
raw_of (insn.Swap o bits dst) = raw (swap_opcode o) dst 0 (pos 0) (pos bits)

-- the bytes of an instruction: a wide load has those of its second half, which has none of its own
abbrev pub insn_bytes : Insn → List ℕ
insn_bytes (insn.Wide dst low high) = slot_bytes (raw 0x18 dst 0 (pos 0) low) ++ slot_bytes (raw 0 0 0 (pos 0) high)
insn_bytes insn.Half = []
insn_bytes x = slot_bytes (raw_of x)

abbrev pub encoding : List Insn → List ℕ
encoding insns = flat_map insn_bytes insns
