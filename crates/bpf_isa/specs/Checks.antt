-- The tests of a slot's fields, in the order of their faults.
use Rattle.std.specs.Prelude.{ℕ, ℤ, pos, negsuc, ◌/◌, ◌%◌, Bool, false, ◌&&◌, Option, Some, None, Result, Ok, Err, nat_le, ◌==◌, if◌then◌else◌}
use Rattle.bpf_isa.specs.declared.insn.Insn.{Insn}
use Rattle.bpf_isa.specs.declared.insn.Operand.{Operand}
use Rattle.bpf_isa.specs.declared.insn.Operand.TheVariants as operand
use Rattle.bpf_isa.specs.declared.fault.SlotFault.{SlotFault}
use Rattle.bpf_isa.specs.declared.fault.SlotFault.TheVariants.{Opcode, Register, Field}
use Rattle.bpf_isa.specs.declared.raw.Raw.{Raw}

-- a field that must be 0 is
abbrev pub is_zero : ℤ → Bool
is_zero (pos n) = n == 0
is_zero (negsuc n) = false

-- the value, where the used registers are 0 to 9 and the reserved fields are 0; else the first fault
abbrev pub checked : {A : Type 0} → Bool → Bool → A → Result A SlotFault
checked registers reserved x = if registers then (if reserved then Ok x else Err Field) else Err Register

-- the second step, unless the first has a fault
infixl 10 ◌>>=◌
abbrev pub ◌>>=◌ : {A B E : Type 0} → Result A E → (A → Result B E) → Result B E
(Ok x) >>= f = f x
(Err e) >>= f = Err e

-- what the table has, or no such opcode
abbrev pub found : {A B : Type 0} → Option A → (A → Result B SlotFault) → Result B SlotFault
found None f = Err Opcode
found (Some x) f = f x

-- the instruction of so many bits, or a field that holds no such number
abbrev pub of_bits : Option ℕ → (ℕ → Insn) → Result Insn SlotFault
of_bits None f = Err Field
of_bits (Some bits) f = Ok (f bits)

-- bit 3 of the opcode says that the second operand is a register
abbrev pub takes_register : Raw → Bool
takes_register raw = raw.op / 8 % 2 == 1

-- the second operand, where reserved says that the other reserved fields are 0
abbrev pub operand_in : Raw → Bool → Result Operand SlotFault
operand_in raw reserved =
    if takes_register raw then checked (nat_le raw.dst 9 && nat_le raw.src 9) (reserved && is_zero raw.imm) (operand.Reg raw.src)
    else checked (nat_le raw.dst 9) (reserved && raw.src == 0) (operand.Imm raw.imm)
