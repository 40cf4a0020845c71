use Rattle.std.proofs.Common.{◌≡◌, ℕ, ◌<◌, ◌≤◌, ◌++◌, map, drop, false, get_or, vec_len, vec_capacity, Some}
use Rattle.std.specs.Mem.Slots.{slots_items, slots_filled, slots_len, IsFull}
use Rattle.std.specs.Mem.Slots.Ownership.{Filled}
use Rattle.shfl_arena.proofs.closing.drained.Given as goal

abbrev pub invariant-loop-k : goal.invariant-loop-k
invariant-loop-k g l = Filled (slots_filled l.closed.slots) l.k (slots_len l.closed.slots) × ((k : ℕ) → k < l.k → get_or (slots_filled l.closed.slots) k false ≡ false)
    × (slots_len l.closed.slots ≡ l.places) × (slots_items l.closed.slots ≡ slots_items l.initial.closed.slots) × IsFull l.closed.words
    × (map Some l.room.items ++ drop l.k (slots_items l.initial.closed.slots) ≡ slots_items l.initial.closed.slots) × (vec_len l.room ≡ l.k) × (l.places ≤ vec_capacity l.room)
