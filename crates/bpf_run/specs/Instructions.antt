-- What a decoded instruction does: to the registers, and to where the run goes on.
use Rattle.std.specs.Prelude.{ℕ, zero, suc, Bool, List, [], ◌∷◌, slice_index, slice_set}
use Rattle.std.specs.Int.{w8, w16, w32, w64, cast_unsigned}
use Rattle.std.specs.Int.{Width as Bits}
use Rattle.bpf_isa.specs.declared.insn.AluOp.{AluOp}
use Rattle.bpf_isa.specs.declared.insn.Cond.{Cond}
use Rattle.bpf_isa.specs.declared.insn.Width.{Width}
use Rattle.bpf_isa.specs.declared.insn.Width.TheVariants as width
use Rattle.bpf_isa.specs.declared.insn.Size.{Size}
use Rattle.bpf_isa.specs.declared.insn.Size.TheVariants as size
use Rattle.bpf_isa.specs.declared.insn.Operand.{Operand}
use Rattle.bpf_isa.specs.declared.insn.Operand.TheVariants as operand
use Rattle.bpf_isa.specs.declared.insn.Insn.{Insn}
use Rattle.bpf_isa.specs.declared.insn.Insn.TheVariants as insn
use Rattle.bpf_run.specs.declared.flow.Flow.{Flow}
use Rattle.bpf_run.specs.declared.flow.Flow.TheVariants.{Past, End}
use Rattle.bpf_run.specs.Arithmetic.{low, difference}
use Rattle.bpf_run.specs.Operations.{computed, holds, moved_signed, swapped, address, loaded, loaded_signed}
use Rattle.bpf_run.specs.Slots.{wide, jumped, jumped_if}
use Rattle.bpf_run.specs.Meaning.{Outcome, going}

-- the bits of an operation's width and of a load's size
abbrev pub bits_of : Width → Bits
bits_of width.W32 = w32
bits_of width.W64 = w64

abbrev pub bits_loaded : Size → Bits
bits_loaded size.B = w8
bits_loaded size.H = w16
bits_loaded size.W = w32
bits_loaded size.DW = w64

-- the low bits of a register, and an operand at a width
abbrev pub register : Bits → ℕ → List ℕ → ℕ
register w r regs = low w (slice_index regs r)

abbrev pub operand_at : Bits → Operand → List ℕ → ℕ
operand_at w (operand.Reg r) regs = register w r regs
operand_at w (operand.Imm imm) regs = cast_unsigned w imm

-- what arithmetic makes of its two operands, and whether a condition holds of them
abbrev pub result_of : Width → AluOp → ℕ → Operand → List ℕ → ℕ
result_of w op dst src regs = computed op (bits_of w) (register (bits_of w) dst regs) (operand_at (bits_of w) src regs)

abbrev pub is_met : Width → Cond → ℕ → Operand → List ℕ → Bool
is_met w c dst src regs = holds c (bits_of w) (register (bits_of w) dst regs) (operand_at (bits_of w) src regs)

-- the registers after an instruction
abbrev pub after : Insn → List ℕ → List ℕ → List ℕ
after (insn.Alu w op dst src) context regs = slice_set regs dst (result_of w op dst src regs)
after (insn.Neg w dst) context regs = slice_set regs dst (difference (bits_of w) 0 (register (bits_of w) dst regs))
after (insn.Load s dst src off) context regs = slice_set regs dst (loaded (bits_loaded s) (address (slice_index regs src) off) context)
after (insn.LoadSigned s dst src off) context regs = slice_set regs dst (loaded_signed (bits_loaded s) (address (slice_index regs src) off) context)
after (insn.MovSigned w count dst src) context regs = slice_set regs dst (moved_signed (bits_of w) count (slice_index regs src))
after (insn.Swap o count dst) context regs = slice_set regs dst (swapped o count (slice_index regs dst))
after (insn.Wide dst lower upper) context regs = slice_set regs dst (wide lower upper)
after insn.Half context regs = regs
after (insn.Goto off) context regs = regs
after (insn.GotoLong off) context regs = regs
after (insn.Jump w c dst src off) context regs = regs
after insn.Exit context regs = regs

-- where the run goes on
abbrev pub flow_of : Insn → List ℕ → Flow
flow_of (insn.Alu w op dst src) regs = Past 0
flow_of (insn.Neg w dst) regs = Past 0
flow_of (insn.Load s dst src off) regs = Past 0
flow_of (insn.LoadSigned s dst src off) regs = Past 0
flow_of (insn.MovSigned w count dst src) regs = Past 0
flow_of (insn.Swap o count dst) regs = Past 0
flow_of (insn.Wide dst lower upper) regs = Past 1
flow_of insn.Half regs = Past 0
flow_of (insn.Goto off) regs = jumped off
flow_of (insn.GotoLong off) regs = jumped off
flow_of (insn.Jump w c dst src off) regs = jumped_if (is_met w c dst src regs) off
flow_of insn.Exit regs = End (slice_index regs 0)

-- the instructions that remain, the first so many of them passed over
abbrev pub running : ℕ → List Insn → List ℕ → List ℕ → Outcome
running skip [] context regs = record { value = 0; count = 0 }
running (suc skip) (x ∷ insns) context regs = running skip insns context regs
running zero (x ∷ insns) context regs = going (flow_of x regs) (λ skip. running skip insns context (after x context regs))
