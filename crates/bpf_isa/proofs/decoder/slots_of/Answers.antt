use Rattle.std.proofs.Common.{length}
use Rattle.bpf_isa.proofs.SlotLoop.{goes_on, ends, is_done, fails_at}
use Rattle.bpf_isa.proofs.decoder.slots_of.Goals as goal

pub returns-in-Err : goal.returns-in-Err
returns-in-Err c = rw c.at.ensures (fails_at c.loop-slot.slot c.in-Err.fault _ (ends c.loop-slot.insns.items c.args.profile c.args.bytes.now (length c.args.halves.now) c.loop-slot.slot c.in-Err.fault _ c.loop-slot-test.true c.in-Err.ensures c.loop-slot.invariant))

pub loop-slot-preserved : goal.loop-slot-preserved
loop-slot-preserved c = rw c.in_ok-push-in-Ok.ensures.items (goes_on c.loop-slot.insns.items c.args.profile c.args.bytes.now (length c.args.halves.now) c.loop-slot.slot c.in-Ok.insn _ c.loop-slot-test.true c.in-Ok.ensures c.loop-slot.invariant)

pub returns : goal.returns
returns c = is_done c.loop-slot.insns.items c.args.profile c.args.bytes.now (length c.args.halves.now) c.loop-slot.slot _ c.loop-slot-test.false c.loop-slot.invariant
