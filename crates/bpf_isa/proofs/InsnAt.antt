-- Reading an instruction of a list.
use Rattle.std.proofs.Common.{◌≡◌, ℕ, ◌<◌, List, length, get_or}
use Rattle.std.proofs.lemmas.List.{get_or_default}
use Rattle.bpf_isa.specs.declared.insn.Insn.{Insn}
use Rattle.bpf_isa.specs.declared.insn.Insn.TheVariants as insn
use Rattle.bpf_isa.specs.Flow.{insn_at}

-- what indexing in the code reads is the instruction of the slot
pub read_is_insn_at : (insns : List Insn) (slot : ℕ) (d : Insn) → slot < length insns → get_or insns slot d ≡ insn_at insns slot
read_is_insn_at insns slot d lt = get_or_default insns slot d insn.Half lt
