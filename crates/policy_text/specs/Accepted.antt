-- Programs that a profile accepts.
use Rattle.std.specs.Prelude.{◌≡◌, ◌⊎◌, ℕ, List, Option, Some, None, Ok}
use Rattle.bpf_isa.specs.declared.insn.Insn.{Insn}
use Rattle.bpf_isa.specs.declared.insn.Profile.{Profile}
use Rattle.bpf_isa.specs.Decoding.{decoding}
use Rattle.bpf_verifier.specs.Acceptance.{IsAccepted}
use Rattle.policy_source.specs.Source.{SourceModel}

-- the bytes decode in the profile, and what they decode to is accepted
abbrev pub IsProgram : Profile → List ℕ → Type 0
IsProgram profile bytes = (insns : List Insn) × (decoding profile bytes ≡ Ok insns) × IsAccepted insns

-- a program that is there is accepted
abbrev pub AcceptsProgram : Profile → Option (List ℕ) → Type 0
AcceptsProgram profile None = Unit {0}
AcceptsProgram profile (Some bytes) = IsProgram profile bytes

-- both programs of a policy are
abbrev pub AcceptsSource : Profile → SourceModel → Type 0
AcceptsSource profile source = AcceptsProgram profile source.should × AcceptsProgram profile source.skip

-- the programs are accepted, and then this holds, or not, and then that
abbrev pub Judged : Profile → SourceModel → Type 0 → Type 0 → Type 0
Judged profile source this that = (AcceptsSource profile source × this) ⊎ ((¬ (AcceptsSource profile source)) × that)
