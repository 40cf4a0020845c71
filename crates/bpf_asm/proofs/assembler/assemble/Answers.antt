use Rattle.std.proofs.Common.{◌≡◌, List, Result, Ok, Err, IfOk}
use Rattle.bpf_isa.specs.declared.insn.Insn.{Insn}
use Rattle.bpf_isa.proofs.DecodedAgain.{decoding-encoding}
use Rattle.bpf_asm.specs.declared.error.AsmError.{AsmError}
use Rattle.bpf_asm.specs.Views.{Gives}
use Rattle.bpf_asm.proofs.WholeFormed.{assembly_is_formed}
use Rattle.bpf_asm.proofs.assembler.assemble.Goals as goal

if_given : {X : Type 0} (view : X → List Insn) (r : Result X AsmError) (due : Result (List Insn) AsmError) (P : X → Type 0) → Gives view r due → ((x : X) → due ≡ Ok (view x) → P x) → IfOk r P
if_given view (Ok x) due P given law = law x given
if_given view (Err e) due P given law = tt

pub returns-clause-well_formed : goal.returns-clause-well_formed
returns-clause-well_formed c = if_given _ c.assemble_exactly.result _ _ c.assemble_exactly.ensures (λ v e. (assembly_is_formed c.args.profile c.args.text.now v.items e).well)

pub returns-clause-of_profile : goal.returns-clause-of_profile
returns-clause-of_profile c = if_given _ c.assemble_exactly.result _ _ c.assemble_exactly.ensures (λ v e. (assembly_is_formed c.args.profile c.args.text.now v.items e).owned)

pub returns-clause-decodes : goal.returns-clause-decodes
returns-clause-decodes c = if_given _ c.assemble_exactly.result _ _ c.assemble_exactly.ensures (λ v e.
    let f = assembly_is_formed c.args.profile c.args.text.now v.items e in
    decoding-encoding c.args.profile v.items f.well f.owned)
