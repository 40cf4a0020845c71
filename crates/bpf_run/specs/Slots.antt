-- What a raw slot does, by its opcode: to the registers, and to where the run goes on (RFC 9669, sections 3 to 5).
use Rattle.std.specs.Prelude.{ℕ, ℤ, pos, negsuc, ◌+◌, ◌*◌, ◌/◌, ◌%◌, ◌^◌, ◌==◌, ◌&&◌, Bool, false, not, List, Option, Some, None, slice_index, slice_set, unsigned_abs, if◌then◌else◌}
use Rattle.std.specs.Int.{w8, w16, w32, w64, cast_unsigned}
use Rattle.std.specs.Int.{Width as Bits}
use Rattle.bpf_isa.specs.declared.insn.AluOp.{AluOp}
use Rattle.bpf_isa.specs.declared.insn.Cond.{Cond}
use Rattle.bpf_isa.specs.declared.insn.Order.TheVariants as order
use Rattle.bpf_isa.specs.declared.raw.Raw.{Raw}
use Rattle.bpf_isa.specs.Checks.{takes_register, is_zero}
use Rattle.bpf_isa.specs.Table.{alu_op, condition_of}
use Rattle.bpf_run.specs.declared.flow.Flow.{Flow}
use Rattle.bpf_run.specs.declared.flow.Flow.TheVariants.{Past, End}
use Rattle.bpf_run.specs.Arithmetic.{low, difference}
use Rattle.bpf_run.specs.Operations.{computed, holds, moved_signed, swapped, address, loaded, loaded_signed}

-- the low three bits of an opcode are its class, and the high four bits of arithmetic and of a jump are its code
abbrev pub class_of : Raw → ℕ
class_of raw = raw.op % 8

abbrev pub code_of : Raw → ℕ
code_of raw = raw.op / 16

-- the first operand at a width: the low bits of the destination
abbrev pub first_operand : Bits → Raw → List ℕ → ℕ
first_operand w raw regs = low w (slice_index regs raw.dst)

-- the second: the low bits of the source, or the immediate number with its sign
abbrev pub second_operand : Bits → Raw → List ℕ → ℕ
second_operand w raw regs = if takes_register raw then low w (slice_index regs raw.src) else cast_unsigned w raw.imm

-- an operation of the table; no other code is one
abbrev pub computed_by : Option AluOp → Bits → ℕ → ℕ → ℕ
computed_by None w a b = a
computed_by (Some op) w a b = computed op w a b

-- arithmetic: a negation, a byte swap of all 64 bits, a move with an offset, which extends the sign, or an operation of the table
abbrev pub arithmetic : Bits → Raw → List ℕ → ℕ
arithmetic w raw regs =
    if code_of raw == 0x8 then difference w 0 (first_operand w raw regs) else
    if raw.op == 0xd4 then swapped order.Little (unsigned_abs raw.imm) (slice_index regs raw.dst) else
    if code_of raw == 0xd then swapped order.Swap (unsigned_abs raw.imm) (slice_index regs raw.dst) else
    if code_of raw == 0xb && not (is_zero raw.off) then moved_signed w (unsigned_abs raw.off) (slice_index regs raw.src) else
    computed_by (alu_op (code_of raw)) w (first_operand w raw regs) (second_operand w raw regs)

-- the bits that a load reads, by bits 3 and 4 of its opcode
abbrev pub load_bits : ℕ → Bits
load_bits size =
    if size == 0 then w32 else
    if size == 1 then w16 else
    if size == 2 then w8 else w64

abbrev pub load_address : Raw → List ℕ → ℕ
load_address raw regs = address (slice_index regs raw.src) raw.off

-- a load: the high three bits of the opcode are 4 where it extends the sign
abbrev pub load : Raw → List ℕ → List ℕ → ℕ
load raw context regs =
    if raw.op / 32 == 4 then loaded_signed (load_bits (raw.op / 8 % 4)) (load_address raw regs) context
    else loaded (load_bits (raw.op / 8 % 4)) (load_address raw regs) context

-- a wide load: two immediate numbers of 32 bits, the high one from the slot behind
abbrev pub wide : ℤ → ℤ → ℕ
wide lower upper = cast_unsigned w32 lower + cast_unsigned w32 upper * 2 ^ 32

-- the registers after a slot, where upper is the immediate number of the slot behind; other classes change none
abbrev pub registers_after : Raw → ℤ → List ℕ → List ℕ → List ℕ
registers_after raw upper context regs =
    if raw.op == 0x18 then slice_set regs raw.dst (wide raw.imm upper) else
    if class_of raw == 1 then slice_set regs raw.dst (load raw context regs) else
    if class_of raw == 4 then slice_set regs raw.dst (arithmetic w32 raw regs) else
    if class_of raw == 7 then slice_set regs raw.dst (arithmetic w64 raw regs) else regs

-- a jump passes over the slots that its offset counts; a backward one, which no accepted program has, ends with 0
abbrev pub jumped : ℤ → Flow
jumped (pos n) = Past n
jumped (negsuc n) = End 0

abbrev pub holds_by : Option Cond → Bits → ℕ → ℕ → Bool
holds_by None w a b = false
holds_by (Some c) w a b = holds c w a b

abbrev pub jumped_if : Bool → ℤ → Flow
jumped_if taken off = if taken then jumped off else Past 0

abbrev pub conditional : Bits → Raw → List ℕ → Flow
conditional w raw regs = jumped_if (holds_by (condition_of (code_of raw)) w (first_operand w raw regs) (second_operand w raw regs)) raw.off

-- where the run goes on: an exit ends it with register 0, and a wide load passes over its second half
abbrev pub flow_after : Raw → List ℕ → Flow
flow_after raw regs =
    if raw.op == 0x95 then End (slice_index regs 0) else
    if raw.op == 0x18 then Past 1 else
    if raw.op == 0x05 then jumped raw.off else
    if raw.op == 0x06 then jumped raw.imm else
    if class_of raw == 5 then conditional w64 raw regs else
    if class_of raw == 6 then conditional w32 raw regs else Past 0
