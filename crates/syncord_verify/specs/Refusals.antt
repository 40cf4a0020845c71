-- The faults of decoding and of verifying, as the command tells them: by number, slot and register.
use Rattle.bpf_isa.specs.declared.error.IsaError.{IsaError}
use Rattle.bpf_isa.specs.declared.error.IsaError.TheVariants as decoder
use Rattle.bpf_verifier.specs.declared.refusal.Refusal.{Refusal as Fault}
use Rattle.bpf_verifier.specs.declared.refusal.Refusal.TheVariants as verifier
use Rattle.syncord_endings.specs.declared.ending.Refusal.{Refusal}
use Rattle.syncord_endings.specs.declared.ending.Refusal.TheVariants.{Program, Slot, Register, NoMemory}

-- 1 to 3 are of the program as a whole, 4 to 7 of a slot
abbrev pub of_decoder : IsaError → Refusal
of_decoder decoder.Empty = Program 1
of_decoder decoder.OddLength = Program 2
of_decoder decoder.TooLong = Program 3
of_decoder (decoder.BadOpcode slot) = Slot 4 slot
of_decoder (decoder.BadRegister slot) = Slot 5 slot
of_decoder (decoder.Reserved slot) = Slot 6 slot
of_decoder (decoder.HalfWide slot) = Slot 7 slot
of_decoder decoder.NoMemory = NoMemory

-- 10 and 11 are of a register that the slot reads
abbrev pub of_verifier : Fault → Refusal
of_verifier (verifier.Back slot) = Slot 8 slot
of_verifier (verifier.OutOfProgram slot) = Slot 9 slot
of_verifier (verifier.NoValue slot reg) = Register 10 slot reg
of_verifier (verifier.PointerUse slot reg) = Register 11 slot reg
of_verifier (verifier.BadLoad slot) = Slot 12 slot
of_verifier verifier.NoMemory = NoMemory
