use Rattle.std.proofs.Common.{◌≡◌, take}
use Rattle.bpf_isa.specs.Encoding.{encoding}
use Rattle.bpf_isa.proofs.encoder.encode_all.Given as goal

abbrev pub invariant-loop-insn : goal.invariant-loop-insn
invariant-loop-insn l = l.out.items ≡ encoding (take l.insn-index l.insns)
