use Rattle.std.proofs.Common.{◌≡◌, ◌+◌, ◌≤◌, All, vec_len, vec_capacity}
use Rattle.shfl_arena.specs.SeatModels.{IsNewAt}
use Rattle.arena_tests.proofs.closing.values_left.Given as goal

abbrev pub invariant-loop-own : goal.invariant-loop-own
invariant-loop-own g l =
    All (IsNewAt l.fn.mutexes.id) l.seats.items × All (IsNewAt l.fn.mutexes.id) l.back.items
    × (vec_len l.seats + vec_len l.back ≡ l.fn.mutexes.threads) × (vec_len l.seats + vec_len l.back ≤ vec_capacity l.back)

abbrev pub decreases-loop-own : goal.decreases-loop-own
decreases-loop-own g l = vec_len l.seats
