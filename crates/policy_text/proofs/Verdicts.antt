-- What a refusal says of a program's bytes.
use Rattle.std.proofs.Common.{◌≡◌, ◌≢◌, ℕ, Bool, false, List, Result, Ok, Err, IfOk, subst}
use Rattle.std.specs.Prelude.{IsTrue, ◌↔◌}
use Rattle.bpf_isa.specs.declared.insn.Insn.{Insn}
use Rattle.bpf_isa.specs.declared.insn.Profile.{Profile}
use Rattle.bpf_isa.specs.Decoding.{decoding}
use Rattle.bpf_verifier.specs.declared.refusal.Refusal.{Refusal}
use Rattle.bpf_verifier.specs.declared.refusal.Refusal.TheVariants.{NoMemory}
use Rattle.bpf_verifier.specs.Acceptance.{IsAccepted, IsRefusal}
use Rattle.bpf_verifier.proofs.Refusals.{refused-not_accepted}
use Rattle.policy_text.specs.declared.error.NoMemory.{NoMemory as Wants}
use Rattle.policy_text.specs.Accepted.{IsProgram}

pub not_a_program : (profile : Profile) (bytes : List ℕ) (insns : List Insn) (e : Refusal) → decoding profile bytes ≡ Ok insns → IsRefusal insns e → e ≢ NoMemory → IsProgram profile bytes → ⊥
not_a_program profile bytes insns e d h ne (others, f, a) =
    let same : others ≡ insns = cc in
    refused-not_accepted insns e h ne (subst IsAccepted same a)

pub verdict : (profile : Profile) (bytes : List ℕ) (insns : List Insn) (e : Refusal) (r : Result Bool Wants) → decoding profile bytes ≡ Ok insns → IsRefusal insns e
    → IfOk r (λ yes. (yes ≡ false) × (e ≢ NoMemory)) → IfOk r (λ yes. IsTrue yes ↔ IsProgram profile bytes)
verdict profile bytes insns e (Ok b) d h g = (λ t. (let refused = g.0 in cc), λ p. absurd (not_a_program profile bytes insns e d h g.1 p))
verdict profile bytes insns e (Err x) d h g = tt
