-- The first fault of a list of instructions is due to its digits.
use Rattle.std.proofs.Common.{ℕ, List, refl, inr}
use Rattle.bpf_isa.specs.declared.insn.Insn.{Insn}
use Rattle.bpf_isa.specs.declared.insn.Profile.{Profile}
use Rattle.bpf_verifier.specs.declared.refusal.Refusal.{Refusal as Fault}
use Rattle.bpf_verifier.specs.declared.refusal.Refusal.TheVariants.{Back, OutOfProgram, NoValue, PointerUse, BadLoad, NoMemory}
use Rattle.bpf_verifier.specs.Faults.{HasFault, IsFirst}
use Rattle.bpf_verifier.specs.Acceptance.{IsRefusal}
use Rattle.syncord_endings.specs.Endings.{Due}
use Rattle.syncord_verify.specs.Refusals.{of_verifier}
use Rattle.syncord_verify.specs.Verdicts.{Writes, Refuses, IsFaulty}

pub faulty : (profile : Profile) (digits : List ℕ) (insns : List Insn) (fault : Fault) → Writes profile digits insns
    → IsFirst (HasFault insns) fault → Refuses profile digits (of_verifier fault)
faulty profile digits insns fault written first =
    let told : IsFaulty profile digits (of_verifier fault) = record { insns = insns; written = written; fault = fault; first = first; told = refl } in
    inr told

pub is_due : (profile : Profile) (digits : List ℕ) (insns : List Insn) (fault : Fault) → Writes profile digits insns
    → IsRefusal insns fault → Due (Refuses profile digits) (of_verifier fault)
is_due profile digits insns NoMemory written refused = tt
is_due profile digits insns (Back slot) written refused = faulty profile digits insns (Back slot) written refused
is_due profile digits insns (OutOfProgram slot) written refused = faulty profile digits insns (OutOfProgram slot) written refused
is_due profile digits insns (NoValue slot reg) written refused = faulty profile digits insns (NoValue slot reg) written refused
is_due profile digits insns (PointerUse slot reg) written refused = faulty profile digits insns (PointerUse slot reg) written refused
is_due profile digits insns (BadLoad slot) written refused = faulty profile digits insns (BadLoad slot) written refused
