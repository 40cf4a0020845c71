-- A program that is refused isn't accepted.
use Rattle.std.proofs.Common.{◌≢◌, List, refl}
use Rattle.bpf_isa.specs.declared.insn.Insn.{Insn}
use Rattle.bpf_verifier.specs.declared.refusal.Refusal.{Refusal}
use Rattle.bpf_verifier.specs.declared.refusal.Refusal.TheVariants.{Back, OutOfProgram, NoValue, PointerUse, BadLoad, NoMemory}
use Rattle.bpf_verifier.specs.Acceptance.{IsAccepted, IsRefusal}

pub refused-not_accepted : (insns : List Insn) (e : Refusal) → IsRefusal insns e → e ≢ NoMemory → IsAccepted insns → ⊥
refused-not_accepted insns NoMemory h ne a = ne refl
refused-not_accepted insns (Back slot) h ne a = a (Back slot) h.0
refused-not_accepted insns (OutOfProgram slot) h ne a = a (OutOfProgram slot) h.0
refused-not_accepted insns (NoValue slot reg) h ne a = a (NoValue slot reg) h.0
refused-not_accepted insns (PointerUse slot reg) h ne a = a (PointerUse slot reg) h.0
refused-not_accepted insns (BadLoad slot) h ne a = a (BadLoad slot) h.0
