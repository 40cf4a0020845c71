use Rattle.std.proofs.Common.{List, subst}
use Rattle.bpf_isa.specs.declared.insn.Insn.{Insn}
use Rattle.bpf_verifier.specs.declared.refusal.Refusal.{Refusal}
use Rattle.bpf_verifier.specs.declared.refusal.Refusal.TheVariants.{Back, OutOfProgram, NoValue, PointerUse, BadLoad, NoMemory}
use Rattle.bpf_verifier.specs.Faults.{HasFault, IsFirst}
use Rattle.bpf_verifier.specs.Acceptance.{IsRefusal}
use Rattle.bpf_verifier.proofs.accept.verify.Goals as goal

refusal_is : (insns : List Insn) (fault : Refusal) → IsFirst (HasFault insns) fault → IsRefusal insns fault
refusal_is insns (Back slot) first = first
refusal_is insns (OutOfProgram slot) first = first
refusal_is insns (NoValue slot reg) first = first
refusal_is insns (PointerUse slot reg) first = first
refusal_is insns (BadLoad slot) first = first
refusal_is insns NoMemory first = tt

pub returns-in-Some-clause-refused : goal.returns-in-Some-clause-refused
returns-in-Some-clause-refused c =
    let P : List Insn → Type 0 = λ insns. IsFirst (HasFault insns) c.in-Some.refusal in
    refusal_is c.args.insns.items c.in-Some.refusal (subst P c.deref.ensures.value c.in-Some.ensures.first)
