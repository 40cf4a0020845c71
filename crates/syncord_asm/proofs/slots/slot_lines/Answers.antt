use Rattle.std.proofs.Common.{arith, ◌≡◌, ◌++◌, ◌*◌, ℕ, ◌+◌, ◌-◌, List, take, drop, ap, sym, ◌∙◌}
use Rattle.syncord_asm.specs.Slots.{slot_at, digits_line}
use Rattle.syncord_asm.proofs.Ranges.{flat_map-range_more}
use Rattle.syncord_asm.proofs.slots.slot_lines.Goals as goal

pub loop-slot-preserved : goal.loop-slot-preserved
loop-slot-preserved c =
    let slot = c.loop-slot.slot in
    let bytes = c.args.bytes.now in
    let line : ℕ → List ℕ = λ s. digits_line (slot_at bytes s) in
    let eight : 8 * slot + 8 - 8 * slot ≡ 8 = omega arith in
    let written : c.push_digits_line.new.text.items ≡ c.loop-slot.text.items ++ line slot =
    c.in_ok-push_digits_line.ensures ∙ ap (λ n. c.loop-slot.text.items ++ digits_line (take n (drop (8 * slot) bytes))) eight in
    written ∙ (ap (λ xs. xs ++ line slot) c.loop-slot.invariant ∙ sym (flat_map-range_more line 0 slot slot (omega arith)))
