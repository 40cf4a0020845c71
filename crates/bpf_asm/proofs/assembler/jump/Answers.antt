use Rattle.std.proofs.Common.{arith}
use Rattle.std.proofs.lemmas.Int.{ints}
use Rattle.bpf_asm.proofs.Resolving.{reach}
use Rattle.bpf_asm.proofs.assembler.jump.Goals as goal

pub returns-in-Some-jump_by : goal.returns-in-Some-jump_by
returns-in-Some-jump_by c = reach c.args.slot c.args.insn c.in-Some-jump_by.insn c.in-Some.mark _ c.fitting.result c.args.found c.in-Some.is (omega (arith, ints, c.distance.ensures)) c.in-Some-jump_by.ensures c.fitting.ensures
