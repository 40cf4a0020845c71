-- What loading a policy from bytes gives: each program decoded and accepted, or the first fault of the first bad one.
use Rattle.std.specs.Prelude.{◌≡◌, ◌≢◌, ℕ, List, Option, Some, None, Ok, Err}
use Rattle.bpf_isa.specs.declared.error.IsaError.TheVariants as isa
use Rattle.bpf_isa.specs.declared.insn.Insn.{Insn}
use Rattle.bpf_isa.specs.declared.insn.Profile.{Profile}
use Rattle.bpf_isa.specs.Decoding.{decoding}
use Rattle.bpf_verifier.specs.declared.refusal.Refusal.TheVariants as refusal
use Rattle.bpf_verifier.specs.Acceptance.{IsAccepted, IsRefusal}
use Rattle.shfl_policy.specs.declared.error.Hook.{Hook}
use Rattle.shfl_policy.specs.declared.error.Hook.TheVariants.{Should, Skip}
use Rattle.shfl_policy.specs.declared.error.ProgramFault.{ProgramFault}
use Rattle.shfl_policy.specs.declared.error.ProgramFault.TheVariants.{Isa, Refused}
use Rattle.shfl_policy.specs.declared.error.LoadError.{LoadError}
use Rattle.shfl_policy.specs.declared.error.LoadError.TheVariants.{Bad, NoMemory}
use Rattle.policy_source.specs.Source.{SourceModel}
use Rattle.shfl_policy.specs.Policies.{PolicyModel}

-- the bytes decode to these instructions, which are accepted; where there are no bytes there is no program
abbrev pub Loads : Profile → Option (List ℕ) → Option (List Insn) → Type 0
Loads profile None None = Unit {0}
Loads profile (Some bytes) (Some insns) = (decoding profile bytes ≡ Ok insns) × IsAccepted insns
Loads profile None (Some insns) = ⊥
Loads profile (Some bytes) None = ⊥

-- the bytes have this fault: of decoding, or else of the program that they decode to; it is never want of memory
abbrev pub HasFault : Profile → Option (List ℕ) → ProgramFault → Type 0
HasFault profile None fault = ⊥
HasFault profile (Some bytes) (Isa error) = (decoding profile bytes ≡ Err error) × (error ≢ isa.NoMemory)
HasFault profile (Some bytes) (Refused fault) = (insns : List Insn) × (decoding profile bytes ≡ Ok insns) × IsRefusal insns fault × (fault ≢ refusal.NoMemory)

-- why the program of a hook isn't loaded; want of memory tells nothing
abbrev pub IsProgramError : Profile → Hook → Option (List ℕ) → LoadError → Type 0
IsProgramError profile hook source (Bad which fault) = (which ≡ hook) × HasFault profile source fault
IsProgramError profile hook source NoMemory = Unit {0}

-- the policy of this name, each of whose programs is its bytes' one
pub record IsLoaded (called : ℕ) (profile : Profile) (source : SourceModel) (policy : PolicyModel) : Type 0 where
  pub name : policy.name ≡ called
  pub should : Loads profile source.should policy.should
  pub skip : Loads profile source.skip policy.skip

-- why a policy isn't loaded: the fault of its first bad program, of which `should` is tried first; want of memory tells nothing
abbrev pub IsLoadError : Profile → SourceModel → LoadError → Type 0
IsLoadError profile source (Bad Should fault) = HasFault profile source.should fault
IsLoadError profile source (Bad Skip fault) = (should : Option (List Insn)) × Loads profile source.should should × HasFault profile source.skip fault
IsLoadError profile source NoMemory = Unit {0}
