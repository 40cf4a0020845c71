use Rattle.std.proofs.Common.{◌≡◌}
use Rattle.shfl_table.specs.Places.{turns}
use Rattle.shfl_table.proofs.exchanges.turn.Given as goal

abbrev pub invariant-loop-k : goal.invariant-loop-k
invariant-loop-k g l = (l.seat.table_id ≡ l.initial.seat.table_id) × (l.seat.id ≡ l.initial.seat.id) × (l.seat.me ≡ (l.initial.seat.me.0, turns l.k l.initial.seat.me.1))
