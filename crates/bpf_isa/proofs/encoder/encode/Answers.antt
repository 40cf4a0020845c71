use Rattle.std.proofs.Common.{◌≡◌, List, ℕ, Ok, Err, Result, IfOk, ap, ◌∙◌}
use Rattle.bpf_isa.specs.declared.insn.Insn.{Insn}
use Rattle.bpf_isa.specs.declared.insn.Profile.{Profile}
use Rattle.bpf_isa.specs.Decoding.{decoding}
use Rattle.bpf_isa.specs.Encoding.{encoding}
use Rattle.bpf_isa.specs.WellFormed.{IsOf, IsWellFormed}
use Rattle.bpf_isa.proofs.DecodedAgain.{decoding-encoding}
use Rattle.bpf_isa.proofs.encoder.encode.Goals as goal

decodes : {X E : Type 0} (view : X → List ℕ) (xs : List Insn) (r : Result X E) → IsWellFormed xs → IfOk r (λ v. view v ≡ encoding xs) → IfOk r (λ v. (p : Profile) → IsOf p xs → decoding p (view v) ≡ Ok xs)
decodes view xs (Ok v) f bytes = λ p o. ap (decoding p) bytes ∙ decoding-encoding p xs f o
decodes view xs (Err e) f bytes = tt

pub returns-clause-decodes : goal.returns-clause-decodes
returns-clause-decodes c = decodes (λ v. v.items) c.args.insns.now c.encode_all.result c.requires c.encode_all.ensures
