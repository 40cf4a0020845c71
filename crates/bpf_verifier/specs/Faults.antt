-- The faults of a program, their order, and acceptance.
use Rattle.std.specs.Prelude.{◌≡◌, ◌<◌, ◌≤◌, ◌⊎◌, ◌≤ℤ◌, ℕ, ℤ, pos, List, length, true, false, Some}
use Rattle.bpf_isa.specs.declared.insn.Insn.{Insn}
use Rattle.bpf_verifier.specs.declared.kind.Kind.TheVariants.{Number, Context}
use Rattle.bpf_verifier.specs.declared.refusal.Refusal.{Refusal}
use Rattle.bpf_verifier.specs.declared.refusal.Refusal.TheVariants.{Back, OutOfProgram, NoValue, PointerUse, BadLoad, NoMemory}
use Rattle.bpf_isa.specs.Flow.{insn_at, jump_offset, target}
use Rattle.bpf_isa.specs.Operands.{reads}
use Rattle.bpf_verifier.specs.Kinds.{takes_pointer, base_of, loads_outside}
use Rattle.bpf_verifier.specs.Paths.{Leads, IsReached, HasKind}

-- a jump whose target isn't above its own slot
abbrev pub JumpsBack : Insn → ℕ → Type 0
JumpsBack insn slot = (off : ℤ) × (jump_offset insn ≡ Some off) × (target slot off ≤ℤ pos slot)

-- an edge to a slot at or past the end of so many slots
abbrev pub LeavesProgram : Insn → ℕ → ℕ → Type 0
LeavesProgram insn slot count = (to : ℕ) × Leads insn slot to × (count ≤ to)

-- a register is read that has no kind at the slot
pub record ReadsNoValue (insns : List Insn) (slot reg : ℕ) : Type 0 where
  pub reached : IsReached insns slot
  pub read : reads (insn_at insns slot) reg ≡ true
  pub no_number : HasKind insns slot reg Number → ⊥
  pub no_context : HasKind insns slot reg Context → ⊥

-- a context pointer is read otherwise than as the base of a load or the source of a 64-bit move
pub record UsesPointer (insns : List Insn) (slot reg : ℕ) : Type 0 where
  pub reached : IsReached insns slot
  pub read : reads (insn_at insns slot) reg ≡ true
  pub as_number : takes_pointer (insn_at insns slot) ≡ false
  pub context : HasKind insns slot reg Context

-- a load whose base is a number, or that reads outside the context
pub record LoadsBadly (insns : List Insn) (slot : ℕ) : Type 0 where
  pub reached : IsReached insns slot
  pub bad : ((base : ℕ) × (base_of (insn_at insns slot) ≡ Some base) × HasKind insns slot base Number)
      ⊎ (loads_outside (insn_at insns slot) ≡ true)

-- the program has this fault; those of edges are faults in slots that nothing reaches too
abbrev pub HasFault : List Insn → Refusal → Type 0
HasFault insns (Back slot) = (slot < length insns) × JumpsBack (insn_at insns slot) slot
HasFault insns (OutOfProgram slot) = (slot < length insns) × LeavesProgram (insn_at insns slot) slot (length insns)
HasFault insns (NoValue slot reg) = (slot < length insns) × ReadsNoValue insns slot reg
HasFault insns (PointerUse slot reg) = (slot < length insns) × UsesPointer insns slot reg
HasFault insns (BadLoad slot) = (slot < length insns) × LoadsBadly insns slot
HasFault insns NoMemory = ⊥

abbrev pub slot_of : Refusal → ℕ
slot_of (Back slot) = slot
slot_of (OutOfProgram slot) = slot
slot_of (NoValue slot reg) = slot
slot_of (PointerUse slot reg) = slot
slot_of (BadLoad slot) = slot
slot_of NoMemory = 0

-- the numbers of the faults, which go on from those of the decoder
abbrev pub number_of : Refusal → ℕ
number_of (Back slot) = 8
number_of (OutOfProgram slot) = 9
number_of (NoValue slot reg) = 10
number_of (PointerUse slot reg) = 11
number_of (BadLoad slot) = 12
number_of NoMemory = 0

abbrev pub register_of : Refusal → ℕ
register_of (NoValue slot reg) = reg
register_of (PointerUse slot reg) = reg
register_of _ = 0

-- in an earlier slot; in the same slot, of a lower number; of the same number, in a lower register
abbrev pub ComesBefore : Refusal → Refusal → Type 0
ComesBefore a b =
    (slot_of a < slot_of b) ⊎ ((slot_of a ≡ slot_of b) × (number_of a < number_of b))
    ⊎ ((slot_of a ≡ slot_of b) × (number_of a ≡ number_of b) × (register_of a < register_of b))

-- none of some faults
abbrev pub HasNone : (Refusal → Type 0) → Type 0
HasNone Fault = (fault : Refusal) → ¬ (Fault fault)

-- the first of some faults
abbrev pub IsFirst : (Refusal → Type 0) → Refusal → Type 0
IsFirst Fault fault = Fault fault × ((other : Refusal) → Fault other → ¬ (ComesBefore other fault))
