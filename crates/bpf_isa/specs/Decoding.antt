-- Decoding: the instructions of all slots, or the first fault.
use Rattle.std.specs.Prelude.{◌≡◌, ◌*◌, ◌<◌, ℕ, ℤ, pos, negsuc, zero, suc, ◌+◌, ◌/◌, ◌%◌, List, [], ◌∷◌, length, Bool, true, false, ◌&&◌, Option, Some, None, Result, Ok, Err, nat_le, nat_lt, ◌==◌, if◌then◌else◌}
use Rattle.bpf_isa.specs.declared.insn.Insn.{Insn}
use Rattle.bpf_isa.specs.declared.insn.Insn.TheVariants as insn
use Rattle.bpf_isa.specs.declared.insn.Profile.{Profile}
use Rattle.bpf_isa.specs.declared.raw.Raw.{Raw}
use Rattle.bpf_isa.specs.declared.error.IsaError.{IsaError}
use Rattle.bpf_isa.specs.declared.error.IsaError.TheVariants as errors
use Rattle.bpf_isa.specs.declared.fault.SlotFault.{SlotFault}
use Rattle.bpf_isa.specs.declared.fault.SlotFault.TheVariants.{HalfLoad}
use Rattle.bpf_isa.specs.Faults.{fault_at}
use Rattle.bpf_isa.specs.Flow.{insn_at, jump_offset, target}
use Rattle.bpf_isa.specs.Slots.{raw_at, is_second_half}
use Rattle.bpf_isa.specs.Checks.{is_zero, checked, ◌>>=◌}
use Rattle.bpf_isa.specs.Table.{insn_in}

-- the place is a second half of the program
abbrev pub half_at : List ℕ → ℕ → ℤ → Bool
half_at bytes count (pos slot) = nat_lt slot count && is_second_half bytes slot
half_at bytes count (negsuc n) = false

-- the jump of a slot leads into a second half
abbrev pub into_half : List ℕ → ℕ → ℕ → Option ℤ → Bool
into_half bytes count slot None = false
into_half bytes count slot (Some off) = half_at bytes count (target slot off)

abbrev pub unless : Bool → Insn → Result Insn SlotFault
unless true x = Err HalfLoad
unless false x = Ok x

-- a second half has only an immediate number
abbrev pub half_in : Raw → Result Insn SlotFault
half_in raw = checked true (raw.op == 0 && raw.dst == 0 && raw.src == 0 && is_zero raw.off) insn.Half

-- a wide load takes the high half from the slot behind it
abbrev pub wide_in : List ℕ → ℕ → ℕ → Raw → Result Insn SlotFault
wide_in bytes count slot raw =
    checked (nat_le raw.dst 9) (raw.src == 0 && is_zero raw.off) (insn.Wide raw.dst raw.imm (raw_at bytes (slot + 1)).imm) >>= unless (slot + 1 == count)

-- the instruction of a slot, or its first fault
unfoldable pub slot_in : Profile → List ℕ → ℕ → ℕ → Result Insn SlotFault
slot_in p bytes count slot =
    if is_second_half bytes slot then half_in (raw_at bytes slot)
    else if (raw_at bytes slot).op == 0x18 then wide_in bytes count slot (raw_at bytes slot)
    else insn_in p (raw_at bytes slot) >>= λ x. unless (into_half bytes count slot (jump_offset x)) x

-- a slot's instruction in front of those behind it, or the first fault
abbrev pub in_front : ℕ → Result Insn SlotFault → Result (List Insn) IsaError → Result (List Insn) IsaError
in_front slot (Err fault) others = Err (fault_at slot fault)
in_front slot (Ok first) (Ok others) = Ok (first ∷ others)
in_front slot (Ok first) (Err e) = Err e

-- the instructions of so many slots from this one on
unfoldable pub slots_from : Profile → List ℕ → ℕ → ℕ → ℕ → Result (List Insn) IsaError
slots_from p bytes count slot zero = Ok []
slots_from p bytes count slot (suc left) = in_front slot (slot_in p bytes count slot) (slots_from p bytes count (slot + 1) left)

-- the instructions of the bytes, or the first fault: the lengths, then the slots
abbrev pub decoding : Profile → List ℕ → Result (List Insn) IsaError
decoding p bytes =
    if length bytes == 0 then Err errors.Empty
    else if nat_lt 0 (length bytes % 8) then Err errors.OddLength
    else if nat_lt 4096 (length bytes) then Err errors.TooLong
    else slots_from p bytes (length bytes / 8) 0 (length bytes / 8)

-- each slot of the bytes has its instruction
pub record HasSlots (p : Profile) (bytes : List ℕ) (insns : List Insn) : Type 0 where
  pub whole : 8 * length insns ≡ length bytes
  pub each : (slot : ℕ) → slot < length insns → slot_in p bytes (length insns) slot ≡ Ok (insn_at insns slot)
