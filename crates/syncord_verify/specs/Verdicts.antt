-- What `verify` says of hexadecimal digits.
use Rattle.std.specs.Prelude.{◌≡◌, ◌⊎◌, ℕ, List, ◌++◌, length, Ok, Err, codes}
use Rattle.std.specs.Fmt.{decimal}
use Rattle.doc_text.specs.declared.fault.Fault.{Fault}
use Rattle.doc_text.specs.Spread.{spread_bytes}
use Rattle.bpf_isa.specs.declared.insn.Insn.{Insn}
use Rattle.bpf_isa.specs.declared.insn.Profile.{Profile}
use Rattle.bpf_isa.specs.declared.error.IsaError.{IsaError}
use Rattle.bpf_isa.specs.Decoding.{decoding}
use Rattle.bpf_verifier.specs.declared.refusal.Refusal.{Refusal as ProgramFault}
use Rattle.bpf_verifier.specs.Faults.{HasFault, IsFirst}
use Rattle.bpf_verifier.specs.Acceptance.{IsAccepted}
use Rattle.syncord_endings.specs.declared.ending.Refusal.{Refusal}
use Rattle.syncord_endings.specs.declared.ending.Refusal.TheVariants.{Line}
use Rattle.syncord_verify.specs.Refusals.{of_decoder, of_verifier}

-- the digits write bytes that decode to these instructions
pub record Writes (profile : Profile) (digits : List ℕ) (insns : List Insn) : Type 0 where
  pub bytes : List ℕ
  pub written : spread_bytes digits ≡ Ok bytes
  pub decoded : decoding profile bytes ≡ Ok insns

abbrev pub accepted_text : ℕ → List ℕ
accepted_text slots = codes "accepted slots " ++ decimal slots ++ codes "\n"

-- the digits write a program without any fault, and the text tells how many slots it has
pub record Reports (profile : Profile) (digits text : List ℕ) : Type 0 where
  pub insns : List Insn
  pub written : Writes profile digits insns
  pub accepted : IsAccepted insns
  pub told : text ≡ accepted_text (length insns)

-- the digits write no bytes
pub record WritesNone (digits : List ℕ) (refusal : Refusal) : Type 0 where
  pub fault : Fault
  pub found : spread_bytes digits ≡ Err fault
  pub told : refusal ≡ Line fault.line fault.what

-- the bytes decode to no instructions
pub record DecodesNot (profile : Profile) (digits : List ℕ) (refusal : Refusal) : Type 0 where
  pub bytes : List ℕ
  pub written : spread_bytes digits ≡ Ok bytes
  pub fault : IsaError
  pub found : decoding profile bytes ≡ Err fault
  pub told : refusal ≡ of_decoder fault

-- the digits write no instructions
abbrev pub IsNoProgram : Profile → List ℕ → Refusal → Type 0
IsNoProgram profile digits refusal = WritesNone digits refusal ⊎ DecodesNot profile digits refusal

-- the instructions have a fault, and this is the first
pub record IsFaulty (profile : Profile) (digits : List ℕ) (refusal : Refusal) : Type 0 where
  pub insns : List Insn
  pub written : Writes profile digits insns
  pub fault : ProgramFault
  pub first : IsFirst (HasFault insns) fault
  pub told : refusal ≡ of_verifier fault

abbrev pub Refuses : Profile → List ℕ → Refusal → Type 0
Refuses profile digits refusal = IsNoProgram profile digits refusal ⊎ IsFaulty profile digits refusal
