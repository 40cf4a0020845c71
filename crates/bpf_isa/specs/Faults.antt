-- The fault of a slot as an error of the whole, and what a function answers that may find no memory.
use Rattle.std.specs.Prelude.{◌≡◌, ℕ, Result, Ok, Err}
use Rattle.bpf_isa.specs.declared.error.IsaError.{IsaError}
use Rattle.bpf_isa.specs.declared.error.IsaError.TheVariants as errors
use Rattle.bpf_isa.specs.declared.fault.SlotFault.{SlotFault}
use Rattle.bpf_isa.specs.declared.fault.SlotFault.TheVariants.{Opcode, Register, Field, HalfLoad}

abbrev pub fault_at : ℕ → SlotFault → IsaError
fault_at slot Opcode = errors.BadOpcode slot
fault_at slot Register = errors.BadRegister slot
fault_at slot Field = errors.Reserved slot
fault_at slot HalfLoad = errors.HalfWide slot

-- the error is the one due, or memory ran out
abbrev pub Fails : {Y : Type 0} → IsaError → Result Y IsaError → Type 0
Fails errors.NoMemory due = Unit {0}
Fails error due = due ≡ Err error

-- the result, seen by view, is the one due, unless memory ran out
abbrev pub Gives : {X Y : Type 0} → (X → Y) → Result X IsaError → Result Y IsaError → Type 0
Gives view (Ok x) due = due ≡ Ok (view x)
Gives view (Err error) due = Fails error due
