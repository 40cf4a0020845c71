use Rattle.std.proofs.Common.{◌≡◌, ◌++◌, true, []}
use Rattle.crossbeam_queue.specs.Passes.{view}
use Rattle.call_queue.specs.Rule.{whole, share}
use Rattle.call_queue.specs.Tickets.{ends_from}
use Rattle.call_queue.proofs.opening.push_ends.Given as goal

abbrev pub invariant-loop-end : goal.invariant-loop-end
invariant-loop-end g l = (l.pass.table_id ≡ l.initial.pass.table_id) × (l.pass.id ≡ l.initial.pass.id) × (l.pass.me.1 ≡ l.initial.pass.me.1)
    × (view l.pass ≡ share whole true ((view l.initial.pass).all ++ ends_from l.calls l.end) [])
