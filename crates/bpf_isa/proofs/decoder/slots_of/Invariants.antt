use Rattle.std.proofs.Common.{◌≡◌, ◌-◌, length}
use Rattle.bpf_isa.specs.Decoding.{slots_from}
use Rattle.bpf_isa.proofs.SlotLoop.{with_front}
use Rattle.bpf_isa.proofs.decoder.slots_of.Given as goal

abbrev pub invariant-loop-slot : goal.invariant-loop-slot
invariant-loop-slot l = with_front l.insns.items (slots_from l.profile l.bytes (length l.halves) l.slot (length l.halves - l.slot)) ≡ slots_from l.profile l.bytes (length l.halves) 0 (length l.halves)
