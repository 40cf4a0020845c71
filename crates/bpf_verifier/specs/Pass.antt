-- What one pass over the slots keeps and finds.
use Rattle.std.specs.Prelude.{◌≡◌, ◌≢◌, ◌<◌, ◌⊎◌, ℕ, ℤ, pos, ◌+◌, List, length, Option, Some, None, true, false, slice_index_or}
use Rattle.bpf_isa.specs.declared.insn.Insn.{Insn}
use Rattle.bpf_verifier.specs.declared.kind.TheConstants.{REGISTERS}
use Rattle.bpf_verifier.specs.declared.kind.Kind.{Kind}
use Rattle.bpf_verifier.specs.declared.kind.Kind.TheVariants.{Absent, Number, Context}
use Rattle.bpf_verifier.specs.declared.refusal.Refusal.{Refusal}
use Rattle.bpf_verifier.specs.declared.refusal.Refusal.TheVariants.{Back, OutOfProgram, NoValue, PointerUse, BadLoad}
use Rattle.bpf_isa.specs.declared.insn.Insn.TheVariants.{Alu, Neg, Load, Wide, Half, Goto, GotoLong, Jump, Exit, LoadSigned, MovSigned, Swap}
use Rattle.bpf_isa.specs.Flow.{jump_offset, target}
use Rattle.bpf_isa.specs.Operands.{reads}
use Rattle.bpf_verifier.specs.Kinds.{kind_at, takes_pointer, base_of, loads_outside, kinds_after}
use Rattle.bpf_verifier.specs.Paths.{Leads}
use Rattle.bpf_verifier.specs.Faults.{JumpsBack, LeavesProgram}

-- the slot that is run next where no jump is taken: a wide load passes over its second half
abbrev pub next_of : Insn → ℕ → Option ℕ
next_of (Alu width op dst src) slot = Some (slot + 1)
next_of (Neg width dst) slot = Some (slot + 1)
next_of (Swap order bits dst) slot = Some (slot + 1)
next_of (MovSigned width bits dst src) slot = Some (slot + 1)
next_of (Load size dst src off) slot = Some (slot + 1)
next_of (LoadSigned size dst src off) slot = Some (slot + 1)
next_of (Wide dst low high) slot = Some (slot + 2)
next_of (Jump width cond dst src off) slot = Some (slot + 1)
next_of (Goto off) slot = None
next_of (GotoLong off) slot = None
next_of Exit slot = None
next_of Half slot = None

-- the slot that a jump leads to, where it is one
abbrev pub IsTarget : Insn → ℕ → Option ℕ → Type 0
IsTarget insn slot None = jump_offset insn ≡ None
IsTarget insn slot (Some to) = (off : ℤ) × (jump_offset insn ≡ Some off) × (target slot off ≡ pos to)

-- a slot's state: the kinds on which all paths so far agree, where there is one
abbrev pub state_at : List (Option (List Kind)) → ℕ → Option (List Kind)
state_at states slot = slice_index_or states slot None

-- the kind on which two paths agree
abbrev pub meet : Kind → Kind → Kind
meet Number Number = Number
meet Context Context = Context
meet _ _ = Absent

pub record IsMeet (a b met : List Kind) : Type 0 where
  pub long : length met ≡ REGISTERS
  pub each : (reg : ℕ) → reg < REGISTERS → kind_at met reg ≡ meet (kind_at a reg) (kind_at b reg)

-- a state with one more list of kinds
abbrev pub Joins : Option (List Kind) → List Kind → Option (List Kind) → Type 0
Joins None kinds None = ⊥
Joins None kinds (Some joined) = joined ≡ kinds
Joins (Some old) kinds None = ⊥
Joins (Some old) kinds (Some joined) = IsMeet old kinds joined

-- the state of a slot when kinds were handed to the slot `to`, or to none
pub record JoinsAt (to : Option ℕ) (kinds : List Kind) (slot : ℕ) (old new : Option (List Kind)) : Type 0 where
  pub here : to ≡ Some slot → Joins old kinds new
  pub others : (to ≡ Some slot → ⊥) → new ≡ old

-- the state of a slot when an instruction handed its kinds on
pub record HandsOn (insn : Insn) (slot : ℕ) (kinds : List Kind) (to : ℕ) (old new : Option (List Kind)) : Type 0 where
  pub here : Leads insn slot to → Joins old kinds new
  pub others : (Leads insn slot to → ⊥) → new ≡ old

-- the faults that the edges of an instruction have
abbrev pub EdgeFault : Insn → ℕ → ℕ → Refusal → Type 0
EdgeFault insn slot count (Back at) = (at ≡ slot) × JumpsBack insn slot
EdgeFault insn slot count (OutOfProgram at) = (at ≡ slot) × LeavesProgram insn slot count
EdgeFault insn slot count _ = ⊥

-- a load whose base is no pointer, or that reads outside the context
abbrev pub IsBadLoad : Insn → List Kind → Type 0
IsBadLoad insn kinds = ((base : ℕ) × (base_of insn ≡ Some base) × (kind_at kinds base ≡ Number)) ⊎ (loads_outside insn ≡ true)

-- the faults that the kinds show
abbrev pub KindFault : Insn → ℕ → List Kind → Refusal → Type 0
KindFault insn slot kinds (NoValue at reg) = (at ≡ slot) × (reads insn reg ≡ true) × (kind_at kinds reg ≡ Absent)
KindFault insn slot kinds (PointerUse at reg) = (at ≡ slot) × (reads insn reg ≡ true) × (takes_pointer insn ≡ false) × (kind_at kinds reg ≡ Context)
KindFault insn slot kinds (BadLoad at) = (at ≡ slot) × IsBadLoad insn kinds
KindFault insn slot kinds _ = ⊥

-- the faults of a slot, by its state
abbrev pub SlotFault : Insn → ℕ → ℕ → Option (List Kind) → Refusal → Type 0
SlotFault insn slot count None fault = EdgeFault insn slot count fault
SlotFault insn slot count (Some kinds) fault = EdgeFault insn slot count fault ⊎ KindFault insn slot kinds fault

-- the same, among the states of all slots
abbrev pub FaultIn : Insn → ℕ → List (Option (List Kind)) → Refusal → Type 0
FaultIn insn slot states fault = SlotFault insn slot (length states) (state_at states slot) fault

-- the states when the kinds behind a slot in this state were handed on
abbrev pub HandsAllOn : Insn → ℕ → Option (List Kind) → List (Option (List Kind)) → List (Option (List Kind)) → Type 0
HandsAllOn insn slot None old new = (to : ℕ) → state_at new to ≡ state_at old to
HandsAllOn insn slot (Some kinds) old new = (to : ℕ) → HandsOn insn slot (kinds_after insn kinds) to (state_at old to) (state_at new to)

abbrev pub Visits : Insn → ℕ → List (Option (List Kind)) → List (Option (List Kind)) → Type 0
Visits insn slot old new = HandsAllOn insn slot (state_at old slot) old new

-- the lowest register of this kind that the instruction reads
pub record IsLowestRead (insn : Insn) (kinds : List Kind) (kind : Kind) (reg : ℕ) : Type 0 where
  pub read : reads insn reg ≡ true
  pub has_kind : kind_at kinds reg ≡ kind
  pub lowest : (lower : ℕ) → lower < reg → reads insn lower ≡ true → kind_at kinds lower ≢ kind
