-- The table of opcodes (RFC 9669, sections 4 and 5): which instruction a slot has, or what is wrong with it.
use Rattle.std.specs.Prelude.{ℕ, ℤ, pos, negsuc, ◌/◌, ◌%◌, Bool, true, false, ◌&&◌, not, Option, Some, None, Result, Ok, Err, nat_le, ◌==◌, if◌then◌else◌}
use Rattle.bpf_isa.specs.declared.insn.AluOp.{AluOp}
use Rattle.bpf_isa.specs.declared.insn.AluOp.TheVariants as alu
use Rattle.bpf_isa.specs.declared.insn.Cond.{Cond}
use Rattle.bpf_isa.specs.declared.insn.Cond.TheVariants as condition
use Rattle.bpf_isa.specs.declared.insn.Insn.{Insn}
use Rattle.bpf_isa.specs.declared.insn.Insn.TheVariants as insn
use Rattle.bpf_isa.specs.declared.insn.Order.{Order}
use Rattle.bpf_isa.specs.declared.insn.Order.TheVariants as order
use Rattle.bpf_isa.specs.declared.insn.Profile.{Profile}
use Rattle.bpf_isa.specs.declared.insn.Profile.TheVariants as profile
use Rattle.bpf_isa.specs.declared.insn.Size.TheVariants as size
use Rattle.bpf_isa.specs.declared.insn.Width.{Width}
use Rattle.bpf_isa.specs.declared.insn.Width.TheVariants as width
use Rattle.bpf_isa.specs.declared.fault.SlotFault.{SlotFault}
use Rattle.bpf_isa.specs.declared.fault.SlotFault.TheVariants.{Opcode}
use Rattle.bpf_isa.specs.declared.raw.Raw.{Raw}
use Rattle.bpf_isa.specs.Checks.{is_zero, checked, ◌>>=◌, found, of_bits, takes_register, operand_in}

-- the operation in the high four bits of an arithmetic opcode
abbrev pub alu_op : ℕ → Option AluOp
alu_op code =
    if code == 0x0 then Some alu.Add else
    if code == 0x1 then Some alu.Sub else
    if code == 0x2 then Some alu.Mul else
    if code == 0x3 then Some alu.Div else
    if code == 0x4 then Some alu.Or else
    if code == 0x5 then Some alu.And else
    if code == 0x6 then Some alu.Lsh else
    if code == 0x7 then Some alu.Rsh else
    if code == 0x9 then Some alu.Mod else
    if code == 0xa then Some alu.Xor else
    if code == 0xb then Some alu.Mov else
    if code == 0xc then Some alu.Arsh else None

-- the condition in the high four bits of a jump's opcode
abbrev pub condition_of : ℕ → Option Cond
condition_of code =
    if code == 0x1 then Some condition.Eq else
    if code == 0x2 then Some condition.Gt else
    if code == 0x3 then Some condition.Ge else
    if code == 0x4 then Some condition.Set else
    if code == 0x5 then Some condition.Ne else
    if code == 0x6 then Some condition.Sgt else
    if code == 0x7 then Some condition.Sge else
    if code == 0xa then Some condition.Lt else
    if code == 0xb then Some condition.Le else
    if code == 0xc then Some condition.Slt else
    if code == 0xd then Some condition.Sle else None

abbrev pub neg_in : Width → Raw → Result Insn SlotFault
neg_in w raw =
    if takes_register raw then Err Opcode
    else checked (nat_le raw.dst 9) (raw.src == 0 && is_zero raw.off && is_zero raw.imm) (insn.Neg w raw.dst)

-- how many bits a move may extend, by its offset
abbrev pub extended_bits : Profile → Width → ℤ → Option ℕ
extended_bits profile.One w off = None
extended_bits profile.Two w (negsuc n) = None
extended_bits profile.Two width.W32 (pos n) = if n == 8 then Some 8 else if n == 16 then Some 16 else None
extended_bits profile.Two width.W64 (pos n) = if n == 8 then Some 8 else if n == 16 then Some 16 else if n == 32 then Some 32 else None

abbrev pub mov_signed_in : Profile → Width → Raw → Result Insn SlotFault
mov_signed_in p w raw =
    checked (nat_le raw.dst 9 && nat_le raw.src 9) (is_zero raw.imm) (extended_bits p w raw.off) >>= λ bits. of_bits bits (λ n. insn.MovSigned w n raw.dst raw.src)

-- what a byte swap does, by its width and bit 3
abbrev pub order_of : Profile → Width → Bool → Option Order
order_of profile.One w big = None
order_of profile.Two width.W32 false = Some order.Little
order_of profile.Two width.W32 true = Some order.Big
order_of profile.Two width.W64 false = Some order.Swap
order_of profile.Two width.W64 true = None

-- how many bits a byte swap may have, by its immediate number
abbrev pub swapped_bits : ℤ → Option ℕ
swapped_bits (negsuc n) = None
swapped_bits (pos n) = if n == 16 then Some 16 else if n == 32 then Some 32 else if n == 64 then Some 64 else None

abbrev pub swap_in : Profile → Width → Raw → Result Insn SlotFault
swap_in p w raw = found (order_of p w (takes_register raw)) (λ o.
    checked (nat_le raw.dst 9) (raw.src == 0 && is_zero raw.off) (swapped_bits raw.imm) >>= λ bits. of_bits bits (λ n. insn.Swap o n raw.dst))

unfoldable pub alu_in : Profile → Width → Raw → Result Insn SlotFault
alu_in p w raw =
    if raw.op / 16 == 0x8 then neg_in w raw
    else if raw.op / 16 == 0xd then swap_in p w raw
    else if raw.op / 16 == 0xb && takes_register raw && not (is_zero raw.off) then mov_signed_in p w raw
    else found (alu_op (raw.op / 16)) (λ op. operand_in raw (is_zero raw.off) >>= λ src. Ok (insn.Alu w op raw.dst src))

unfoldable pub jump_in : Width → Raw → Result Insn SlotFault
jump_in w raw = found (condition_of (raw.op / 16)) (λ c. operand_in raw true >>= λ src. Ok (insn.Jump w c raw.dst src raw.off))

-- the loads that extend the sign
abbrev pub signed_load_of : Profile → Raw → Option Insn
signed_load_of profile.One raw = None
signed_load_of profile.Two raw =
    if raw.op == 0x91 then Some (insn.LoadSigned size.B raw.dst raw.src raw.off) else
    if raw.op == 0x89 then Some (insn.LoadSigned size.H raw.dst raw.src raw.off) else
    if raw.op == 0x81 then Some (insn.LoadSigned size.W raw.dst raw.src raw.off) else None

abbrev pub load_of : Profile → Raw → Option Insn
load_of p raw =
    if raw.op == 0x71 then Some (insn.Load size.B raw.dst raw.src raw.off) else
    if raw.op == 0x69 then Some (insn.Load size.H raw.dst raw.src raw.off) else
    if raw.op == 0x61 then Some (insn.Load size.W raw.dst raw.src raw.off) else
    if raw.op == 0x79 then Some (insn.Load size.DW raw.dst raw.src raw.off) else signed_load_of p raw

unfoldable pub load_in : Profile → Raw → Result Insn SlotFault
load_in p raw = found (load_of p raw) (λ load. checked (nat_le raw.dst 9 && nat_le raw.src 9) (is_zero raw.imm) load)

-- the instruction of a slot that is neither a wide load nor its second half, or its first fault; the low three bits of the opcode are its class
unfoldable pub insn_in : Profile → Raw → Result Insn SlotFault
insn_in p raw =
    if raw.op == 0x95 then checked true (raw.dst == 0 && raw.src == 0 && is_zero raw.off && is_zero raw.imm) insn.Exit
    else if raw.op == 0x05 then checked true (raw.dst == 0 && raw.src == 0 && is_zero raw.imm) (insn.Goto raw.off)
    else if raw.op == 0x06 then checked true (raw.dst == 0 && raw.src == 0 && is_zero raw.off) (insn.GotoLong raw.imm)
    else if raw.op % 8 == 1 then load_in p raw
    else if raw.op % 8 == 4 then alu_in p width.W32 raw
    else if raw.op % 8 == 5 then jump_in width.W64 raw
    else if raw.op % 8 == 6 then jump_in width.W32 raw
    else if raw.op % 8 == 7 then alu_in p width.W64 raw
    else Err Opcode
