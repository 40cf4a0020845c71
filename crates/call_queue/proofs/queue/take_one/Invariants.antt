use Rattle.std.proofs.Common.{◌≡◌}
use Rattle.crossbeam_queue.specs.Passes.{view}
use Rattle.call_queue.proofs.queue.take_one.Given as goal

abbrev pub invariant-loop : goal.invariant-loop
invariant-loop g l = (l.pass.table_id ≡ l.initial.pass.table_id) × (l.pass.id ≡ l.initial.pass.id) × (l.pass.me.1 ≡ l.initial.pass.me.1) × (view l.pass ≡ view l.initial.pass)
