use Rattle.std.proofs.Common.{◌≡◌, take, true, []}
use Rattle.crossbeam_queue.specs.Passes.{view}
use Rattle.call_queue.specs.Rule.{whole, share}
use Rattle.call_queue.specs.Tickets.{calls_from}
use Rattle.call_queue.proofs.opening.push_calls.Given as goal

abbrev pub invariant-loop-at : goal.invariant-loop-at
invariant-loop-at g l = (l.pass.table_id ≡ l.initial.pass.table_id) × (l.pass.id ≡ l.initial.pass.id) × (l.pass.me.1 ≡ l.initial.pass.me.1)
    × (view l.pass ≡ share whole true (calls_from 0 (take l.at l.calls)) [])
