-- What the named operations make of values, by RFC 9669 sections 4.1 to 5.4.
use Rattle.std.specs.Prelude.{ℕ, ℤ, ◌+◌, ◌==◌, Bool, not, List, length, nat_lt, nat_le, drop, if◌then◌else◌}
use Rattle.std.specs.Prelude.{bit_and, bit_or, bit_xor}
use Rattle.std.specs.Int.{w8, w16, w32, w64, cast_unsigned, from_le_bytes, byte_len}
use Rattle.std.specs.Int.{Width as Bits}
use Rattle.bpf_run.specs.Arithmetic.{low, sum, difference, product, quotient, remainder, shifted_left, shifted_right, shifted_signed, extended, reversed, signed_lt, signed_le}
use Rattle.bpf_isa.specs.declared.insn.AluOp.{AluOp}
use Rattle.bpf_isa.specs.declared.insn.AluOp.TheVariants as alu
use Rattle.bpf_isa.specs.declared.insn.Cond.{Cond}
use Rattle.bpf_isa.specs.declared.insn.Cond.TheVariants as condition
use Rattle.bpf_isa.specs.declared.insn.Order.{Order}
use Rattle.bpf_isa.specs.declared.insn.Order.TheVariants as order

-- what an operation makes of two values of its width
abbrev pub computed : AluOp → Bits → ℕ → ℕ → ℕ
computed alu.Add w a b = sum w a b
computed alu.Sub w a b = difference w a b
computed alu.Mul w a b = product w a b
computed alu.Div w a b = quotient a b
computed alu.Or w a b = bit_or a b
computed alu.And w a b = bit_and a b
computed alu.Lsh w a b = shifted_left w a b
computed alu.Rsh w a b = shifted_right w a b
computed alu.Mod w a b = remainder a b
computed alu.Xor w a b = bit_xor a b
computed alu.Mov w a b = b
computed alu.Arsh w a b = shifted_signed w a b

-- a condition holds of two values of its width
abbrev pub holds : Cond → Bits → ℕ → ℕ → Bool
holds condition.Eq w a b = a == b
holds condition.Gt w a b = nat_lt b a
holds condition.Ge w a b = nat_le b a
holds condition.Set w a b = not (bit_and a b == 0)
holds condition.Ne w a b = not (a == b)
holds condition.Sgt w a b = signed_lt w b a
holds condition.Sge w a b = signed_le w b a
holds condition.Lt w a b = nat_lt a b
holds condition.Le w a b = nat_le a b
holds condition.Slt w a b = signed_lt w a b
holds condition.Sle w a b = signed_le w a b

-- the low 8, 16 or 32 bits of a value as a signed number
abbrev pub moved_signed : Bits → ℕ → ℕ → ℕ
moved_signed w count a =
    if count == 8 then extended w8 w (low w8 a) else
    if count == 16 then extended w16 w (low w16 a) else extended w32 w (low w32 a)

-- the low bits of a value: as they are for little endian, else with their bytes reversed
abbrev pub in_order : Order → Bits → ℕ → ℕ
in_order order.Little w a = low w a
in_order order.Big w a = reversed w a
in_order order.Swap w a = reversed w a

-- the same of the low 16, 32 or 64 bits; the rest is cleared
abbrev pub swapped : Order → ℕ → ℕ → ℕ
swapped o count a =
    if count == 16 then in_order o w16 a else
    if count == 32 then in_order o w32 a else in_order o w64 a

-- the address of a load, the context beginning at 0
abbrev pub address : ℕ → ℤ → ℕ
address base off = sum w64 base (cast_unsigned w64 off)

-- the value of so many bits at an address of the context, the lowest byte first, and 0 where it isn't all in the context
abbrev pub loaded : Bits → ℕ → List ℕ → ℕ
loaded w at context = if nat_le (at + byte_len w) (length context) then from_le_bytes w (drop at context) else 0

-- the same as a signed number
abbrev pub loaded_signed : Bits → ℕ → List ℕ → ℕ
loaded_signed w at context = extended w w64 (loaded w at context)
