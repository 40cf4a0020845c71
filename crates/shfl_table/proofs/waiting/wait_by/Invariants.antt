use Rattle.std.proofs.Common.{◌≡◌, false}
use Rattle.shfl_table.specs.Queueing.{attempts_before}
use Rattle.shfl_core.specs.Asking.{IsOpenInRounds}
use Rattle.shfl_table.specs.Waits.{WaitsFor}
use Rattle.shfl_table.proofs.WaitSteps.{AsksMeanwhile}
use Rattle.shfl_table.proofs.waiting.wait_by.Given as goal

abbrev pub invariant-loop : goal.invariant-loop
invariant-loop g l =
    (goal.iterator-loop g).can_next l.iterator' × (goal.iterator-loop g).is_finite l.iterator'
    × WaitsFor g.V.Kept.initial_state g.V.Kept.history (attempts_before l.fn.queueing (g.C.Chooser.moves_waiters l.fn.chooser)) l.fn.mode l.fn.pass l.pass
    × AsksMeanwhile l.anchor l.fn.pass l.pass (g.C.Chooser.told l.fn.chooser) (g.C.Chooser.told l.chooser)
    × (g.C.Chooser.home l.chooser ≡ g.C.Chooser.home l.fn.chooser)
    × (g.C.Chooser.in_round l.fn.chooser ≡ false → IsOpenInRounds (g.C.Chooser.in_round l.chooser) l.pass.own)
