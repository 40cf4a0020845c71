use Rattle.std.proofs.Common.{sym, ◌≡◌, ℕ, List, Result, Ok, Err, IfOk, ap, ◌∙◌}
use Rattle.bpf_isa.specs.declared.insn.Insn.{Insn}
use Rattle.bpf_isa.specs.declared.insn.Profile.TheVariants as profile
use Rattle.bpf_isa.specs.WellFormed.{IsWellFormed}
use Rattle.bpf_asm.specs.Assembly.{assembly}
use Rattle.bpf_asm.specs.Disassembly.{disassembly}
use Rattle.bpf_isa.specs.declared.insn.Profile.{Profile}
use Rattle.bpf_asm.specs.Plain.{HasNoNames}
use Rattle.bpf_asm.proofs.OnlyListing.{only_listing}
use Rattle.bpf_asm.proofs.SlotsAgain.{assembly-disassembly}
use Rattle.bpf_asm.proofs.listing.disassemble.Goals as goal

assembles : {X E : Type 0} (view : X → List ℕ) (xs : List Insn) (r : Result X E) → IsWellFormed xs → IfOk r (λ v. view v ≡ disassembly xs) → IfOk r (λ v. assembly profile.Two (view v) ≡ Ok xs)
assembles view xs (Ok v) f text = ap (assembly profile.Two) text ∙ assembly-disassembly xs f
assembles view xs (Err e) f text = tt

pub returns-clause-assembles : goal.returns-clause-assembles
returns-clause-assembles c = assembles (λ v. v.items) c.args.insns.now c.list_exactly.result c.requires c.list_exactly.ensures

only : {X E : Type 0} (view : X → List ℕ) (xs : List Insn) (r : Result X E) → IfOk r (λ v. view v ≡ disassembly xs)
    → IfOk r (λ v. (p : Profile) (text : List ℕ) → HasNoNames p text → assembly p text ≡ Ok xs → text ≡ view v)
only view xs (Ok v) text = λ p other n e. only_listing p other xs n e ∙ sym text
only view xs (Err e) text = tt

pub returns-clause-only : goal.returns-clause-only
returns-clause-only c = only (λ v. v.items) c.args.insns.now c.list_exactly.result c.list_exactly.ensures
