use Rattle.std.proofs.Common.{sym, subst}
use Rattle.bpf_isa.specs.WellFormed.{HasFields}
use Rattle.bpf_isa.proofs.InsnAt.{read_is_insn_at}
use Rattle.bpf_isa.proofs.encoder.encode_all.Goals as goal

pub push_insn-requires : goal.push_insn-requires
push_insn-requires c = subst HasFields (sym (read_is_insn_at c.args.insns.now c.loop-insn.insn-index _ c.loop-insn-test.true)) (c.requires.fields c.loop-insn.insn-index c.loop-insn-test.true)
