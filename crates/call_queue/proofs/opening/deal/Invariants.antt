use Rattle.std.proofs.Common.{◌≡◌, ◌+◌, ◌≤◌, All, vec_len, vec_capacity}
use Rattle.crossbeam_queue.specs.Passes.{view}
use Rattle.call_queue.specs.Tickets.{bare, calls_in}
use Rattle.call_queue.specs.Queues.{IsFresh}
use Rattle.call_queue.proofs.opening.deal.Given as goal

abbrev pub invariant-loop-dealt : goal.invariant-loop-dealt
invariant-loop-dealt g l = (l.opener.table_id ≡ l.initial.opener.table_id) × (l.opener.id ≡ l.initial.opener.id) × (l.opener.me.1 ≡ l.initial.opener.me.1)
    × ((view l.opener).parts + l.dealt ≡ (view l.initial.opener).parts + 1) × ((view l.opener).all ≡ (view l.initial.opener).all) × ((view l.opener).taken ≡ (view l.initial.opener).taken)
    × (vec_len l.all + 1 ≡ l.dealt) × (l.takers ≤ vec_capacity l.all)
    × All (IsFresh l.initial.opener.table_id (bare (calls_in (view l.initial.opener).all))) l.all.items
