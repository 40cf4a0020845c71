use Rattle.std.proofs.Common.{◌≡◌, take}
use Rattle.bpf_asm.specs.Disassembly.{disassembly}
use Rattle.bpf_asm.proofs.listing.list_exactly.Given as goal

abbrev pub invariant-loop-insn : goal.invariant-loop-insn
invariant-loop-insn l = l.out.items ≡ disassembly (take l.insn-index l.insns)
