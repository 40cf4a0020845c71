use Rattle.std.proofs.Common.{◌≡◌}
use Rattle.std.specs.List.{flat_map, range_with_len}
use Rattle.syncord_asm.specs.Slots.{slot_at, digits_line}
use Rattle.syncord_asm.proofs.slots.slot_lines.Given as goal

abbrev pub invariant-loop-slot : goal.invariant-loop-slot
invariant-loop-slot l = l.text.items ≡ flat_map (λ slot. digits_line (slot_at l.bytes slot)) (range_with_len 0 l.slot)
