-- A source gives one policy at most, and none where a program of it is bad.
use Rattle.std.proofs.Common.{◌≡◌, ◌≢◌, ℕ, List, Option, Some, None, Ok, refl, sym, subst, ◌∙◌}
use Rattle.bpf_isa.specs.declared.insn.Insn.{Insn}
use Rattle.bpf_isa.specs.declared.insn.Profile.{Profile}
use Rattle.bpf_isa.specs.Decoding.{decoding}
use Rattle.bpf_verifier.specs.declared.refusal.Refusal.{Refusal}
use Rattle.bpf_verifier.specs.declared.refusal.Refusal.TheVariants.{NoMemory}
use Rattle.bpf_verifier.specs.Acceptance.{IsAccepted, IsRefusal}
use Rattle.bpf_verifier.proofs.Refusals.{refused-not_accepted}
use Rattle.policy_source.specs.Source.{SourceModel}
use Rattle.shfl_policy.specs.declared.error.Hook.{Hook}
use Rattle.shfl_policy.specs.declared.error.Hook.TheVariants.{Should, Skip}
use Rattle.shfl_policy.specs.declared.error.ProgramFault.{ProgramFault}
use Rattle.shfl_policy.specs.declared.error.ProgramFault.TheVariants.{Isa, Refused}
use Rattle.shfl_policy.specs.declared.error.LoadError.TheVariants.{Bad}
use Rattle.shfl_policy.specs.Loading.{Loads, HasFault, IsLoaded, IsLoadError}
use Rattle.shfl_policy.specs.Policies.{PolicyModel}

loads-once : (profile : Profile) (source : Option (List ℕ)) (a b : Option (List Insn)) → Loads profile source a → Loads profile source b → a ≡ b
loads-once profile None None None h k = refl
loads-once profile None None (Some y) h k = absurd k
loads-once profile None (Some x) b h k = absurd h
loads-once profile (Some bytes) None b h k = absurd h
loads-once profile (Some bytes) (Some x) None h k = absurd k
loads-once profile (Some bytes) (Some x) (Some y) h k = let e = h.0 in let f = k.0 in cc

abbrev of_parts : ℕ → Option (List Insn) → Option (List Insn) → PolicyModel
of_parts called should skip = record { name = called; should = should; skip = skip }

-- the programs of a source are one policy of a name
pub loaded-once : (called : ℕ) (profile : Profile) (source : SourceModel) (a b : PolicyModel) → IsLoaded called profile source a → IsLoaded called profile source b → a ≡ b
loaded-once called profile source a b h k =
    let name : a.name ≡ b.name = h.name ∙ sym k.name in
    let should = loads-once profile source.should a.should b.should h.should k.should in
    let skip = loads-once profile source.skip a.skip b.skip h.skip k.skip in
    let same : of_parts a.name a.should a.skip ≡ of_parts b.name b.should b.skip = rw (name, should, skip) refl in
    same

refused-not_loaded : (profile : Profile) (bytes : List ℕ) (insns others : List Insn) (e : Refusal) → decoding profile bytes ≡ Ok insns → IsRefusal insns e → e ≢ NoMemory → decoding profile bytes ≡ Ok others → IsAccepted others → ⊥
refused-not_loaded profile bytes insns others e d h ne f a =
    let same : others ≡ insns = cc in
    refused-not_accepted insns e h ne (subst IsAccepted same a)

faulty-not_loaded : (profile : Profile) (source : Option (List ℕ)) (fault : ProgramFault) (program : Option (List Insn)) → HasFault profile source fault → Loads profile source program → ⊥
faulty-not_loaded profile None fault program h l = h
faulty-not_loaded profile (Some bytes) fault None h l = l
faulty-not_loaded profile (Some bytes) (Isa e) (Some insns) h l = let a = h.0 in let b = l.0 in cc
faulty-not_loaded profile (Some bytes) (Refused e) (Some insns) h l = refused-not_loaded profile bytes h.0 insns e h.1 h.2 h.3 l.0 l.1

-- a source with a bad program gives no policy
pub not_loaded : (called : ℕ) (profile : Profile) (source : SourceModel) (hook : Hook) (fault : ProgramFault) → IsLoadError profile source (Bad hook fault) → (policy : PolicyModel) → IsLoaded called profile source policy → ⊥
not_loaded called profile source Should fault h policy l = faulty-not_loaded profile source.should fault policy.should h l.should
not_loaded called profile source Skip fault h policy l = faulty-not_loaded profile source.skip fault policy.skip h.2 l.skip
