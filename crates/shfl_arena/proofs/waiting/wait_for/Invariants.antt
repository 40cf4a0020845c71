use Rattle.std.proofs.Common.{◌≡◌}
use Rattle.shfl_arena.specs.Waits.{QueuesAfter, WaitsFor, attempts_before}
use Rattle.shfl_arena.proofs.Asked.{AsksMeanwhile}
use Rattle.shfl_arena.proofs.waiting.wait_for.Given as goal

abbrev pub invariant-loop : goal.invariant-loop
invariant-loop g l =
    (goal.iterator-loop g).can_next l.iterator' × (goal.iterator-loop g).is_finite l.iterator'
    × WaitsFor l.lock l.fn.mode l.fn.seat l.seat
    × (g.C.Chooser.home l.chooser ≡ g.C.Chooser.home l.fn.chooser)
    × AsksMeanwhile l.anchor l.fn.seat l.seat (g.C.Chooser.told l.fn.chooser) (g.C.Chooser.told l.chooser)
    × QueuesAfter (attempts_before (g.C.Chooser.moves_waiters l.fn.chooser)) l.lock l.fn.mode l.fn.seat l.seat
