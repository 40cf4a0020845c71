-- A policy whose programs are accepted is loaded, but for want of memory.
use Rattle.std.proofs.Common.{List, Option, Some, None, ℕ}
use Rattle.bpf_isa.specs.declared.insn.Profile.{Profile}
use Rattle.shfl_policy.specs.declared.error.Hook.{Hook}
use Rattle.shfl_policy.specs.declared.error.Hook.TheVariants.{Should, Skip}
use Rattle.shfl_policy.specs.declared.error.ProgramFault.{ProgramFault}
use Rattle.shfl_policy.specs.declared.error.ProgramFault.TheVariants.{Isa, Refused}
use Rattle.shfl_policy.specs.declared.error.LoadError.TheVariants.{Bad}
use Rattle.policy_source.specs.Source.{SourceModel}
use Rattle.policy_text.specs.Accepted.{AcceptsProgram, AcceptsSource}
use Rattle.policy_text.proofs.Verdicts.{not_a_program}
use Rattle.shfl_policy.specs.Loading.{HasFault, IsLoadError}

faultless : (profile : Profile) (source : Option (List ℕ)) (fault : ProgramFault) → AcceptsProgram profile source → HasFault profile source fault → ⊥
faultless profile None fault accepted h = h
faultless profile (Some bytes) (Isa e) accepted h = let a = h.0 in let b = accepted.1 in cc
faultless profile (Some bytes) (Refused e) accepted h = not_a_program profile bytes h.0 e h.1 h.2 h.3 accepted

pub none_bad : (profile : Profile) (source : SourceModel) (hook : Hook) (fault : ProgramFault) → AcceptsSource profile source → IsLoadError profile source (Bad hook fault) → ⊥
none_bad profile source Should fault accepted h = faultless profile source.should fault accepted.0 h
none_bad profile source Skip fault accepted h = faultless profile source.skip fault accepted.1 h.2
