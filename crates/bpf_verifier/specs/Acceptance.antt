-- When a program is accepted, and what the answer is where it isn't.
use Rattle.std.specs.Prelude.{List}
use Rattle.bpf_isa.specs.declared.insn.Insn.{Insn}
use Rattle.bpf_isa.specs.WellFormed.{IsWellFormed}
use Rattle.bpf_verifier.specs.declared.refusal.Refusal.{Refusal}
use Rattle.bpf_verifier.specs.declared.refusal.Refusal.TheVariants.{NoMemory}
use Rattle.bpf_verifier.specs.Faults.{HasFault, HasNone, IsFirst}

-- no fault at all
abbrev pub IsAccepted : List Insn → Type 0
IsAccepted insns = HasNone (HasFault insns)

-- the first fault; want of memory says nothing of the program
abbrev pub IsRefusal : List Insn → Refusal → Type 0
IsRefusal insns NoMemory = Unit {0}
IsRefusal insns fault = IsFirst (HasFault insns) fault

-- a list that decoding can give, and that is accepted
pub record IsProgram (insns : List Insn) : Type 0 where
  pub well_formed : IsWellFormed insns
  pub accepted : IsAccepted insns
