-- The registers that an instruction reads are among the ten.
use Rattle.std.proofs.Common.{◌≡◌, ◌⊎◌, inl, inr, ℕ, ◌<◌, ◌≤◌, Bool, true, false, cond, ◌||◌, eqb, refl, arith}
use Rattle.std.proofs.lemmas.Bool.Decides.{nat_tests}
use Rattle.bpf_isa.specs.declared.insn.Operand.{Operand}
use Rattle.bpf_isa.specs.declared.insn.Operand.TheVariants.{Reg, Imm}
use Rattle.bpf_isa.specs.declared.insn.AluOp.TheVariants.{Mov}
use Rattle.bpf_isa.specs.declared.insn.Insn.{Insn}
use Rattle.bpf_isa.specs.declared.insn.Insn.TheVariants.{Alu, Neg, Load, Wide, Half, Goto, GotoLong, Jump, Exit, LoadSigned, MovSigned, Swap}
use Rattle.bpf_isa.specs.WellFormed.{HasOperand, HasFields}
use Rattle.bpf_isa.specs.Operands.{operand_is, reads}

one : (reg r : ℕ) → r ≤ 9 → eqb r reg ≡ true → reg < 10
one reg r lt e = grind (arith, nat_tests)

either : (a b : Bool) → (a || b) ≡ true → (a ≡ true) ⊎ (b ≡ true)
either true b e = inl refl
either false b e = inr e

operand : (src : Operand) (reg : ℕ) → HasOperand src → operand_is src reg ≡ true → reg < 10
operand (Reg r) reg fits e = one reg r fits e
operand (Imm n) reg fits e = cc

pub reads_registers : (insn : Insn) (reg : ℕ) → HasFields insn → reads insn reg ≡ true → reg < 10
reads_registers (Alu width Mov dst src) reg fits e = operand src reg fits.1 e
reads_registers (Alu width op dst src) reg fits e = elim (either (eqb dst reg) (operand_is src reg) e) [ inl d ↦ one reg dst fits.0 d | inr s ↦ operand src reg fits.1 s ]
reads_registers (Neg width dst) reg fits e = one reg dst fits e
reads_registers (Swap order bits dst) reg fits e = one reg dst fits.1 e
reads_registers (MovSigned width bits dst src) reg fits e = one reg src fits.2 e
reads_registers (Load size dst src off) reg fits e = one reg src fits.1 e
reads_registers (LoadSigned size dst src off) reg fits e = one reg src fits.2 e
reads_registers (Jump width cond dst src off) reg fits e = elim (either (eqb dst reg) (operand_is src reg) e) [ inl d ↦ one reg dst fits.0 d | inr s ↦ operand src reg fits.1 s ]
reads_registers Exit reg fits e = one reg 0 (omega arith) e
reads_registers (Wide dst low high) reg fits e = cc
reads_registers Half reg fits e = cc
reads_registers (Goto off) reg fits e = cc
reads_registers (GotoLong off) reg fits e = cc
