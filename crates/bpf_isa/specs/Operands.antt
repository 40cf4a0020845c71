-- Which registers an instruction reads and writes.
use Rattle.std.specs.Prelude.{ℕ, Bool, false, ◌||◌, ◌==◌, Option, Some, None}
use Rattle.bpf_isa.specs.declared.insn.Insn.{Insn}
use Rattle.bpf_isa.specs.declared.insn.Insn.TheVariants as insn
use Rattle.bpf_isa.specs.declared.insn.Operand.{Operand}
use Rattle.bpf_isa.specs.declared.insn.Operand.TheVariants as operand
use Rattle.bpf_isa.specs.declared.insn.AluOp.TheVariants as alu
use Rattle.bpf_isa.specs.declared.insn.Size.{Size}
use Rattle.bpf_isa.specs.declared.insn.Size.TheVariants as size

-- the operand is that register
abbrev pub operand_is : Operand → ℕ → Bool
operand_is (operand.Reg source) register = source == register
operand_is (operand.Imm n) register = false

-- the instruction reads the register; a move doesn't read its destination, and an exit reads register 0
abbrev pub reads : Insn → ℕ → Bool
reads (insn.Alu width alu.Mov dst src) register = operand_is src register
reads (insn.Alu width op dst src) register = (dst == register) || operand_is src register
reads (insn.Neg width dst) register = dst == register
reads (insn.Load size dst src off) register = src == register
reads (insn.LoadSigned size dst src off) register = src == register
reads (insn.MovSigned width bits dst src) register = src == register
reads (insn.Swap order bits dst) register = dst == register
reads (insn.Jump width cond dst src off) register = (dst == register) || operand_is src register
reads insn.Exit register = 0 == register
reads (insn.Wide dst low high) register = false
reads insn.Half register = false
reads (insn.Goto off) register = false
reads (insn.GotoLong off) register = false

-- the register that the instruction writes
abbrev pub written : Insn → Option ℕ
written (insn.Alu width op dst src) = Some dst
written (insn.Neg width dst) = Some dst
written (insn.Load size dst src off) = Some dst
written (insn.LoadSigned size dst src off) = Some dst
written (insn.MovSigned width bits dst src) = Some dst
written (insn.Swap order bits dst) = Some dst
written (insn.Wide dst low high) = Some dst
written (insn.Jump width cond dst src off) = None
written insn.Exit = None
written insn.Half = None
written (insn.Goto off) = None
written (insn.GotoLong off) = None

-- how many bytes a load reads
abbrev pub byte_count : Size → ℕ
byte_count size.B = 1
byte_count size.H = 2
byte_count size.W = 4
byte_count size.DW = 8
