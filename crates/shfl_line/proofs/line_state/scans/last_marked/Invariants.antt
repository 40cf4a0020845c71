use Rattle.std.proofs.Common.{◌≡◌, drop, cond, ◌==◌, slice_index}
use Rattle.shfl_line.specs.Words.{link_word}
use Rattle.shfl_line.specs.Passes.{last_marked}
use Rattle.shfl_line.proofs.line_state.scans.last_marked.Given as goal

abbrev pub invariant-loop-waiter : goal.invariant-loop-waiter
invariant-loop-waiter l =
    last_marked (slice_index l.mark) l.line ≡ cond (last_marked (slice_index l.mark) (drop l.waiter-index l.line) == 0) (link_word l.found) (last_marked (slice_index l.mark) (drop l.waiter-index l.line))
