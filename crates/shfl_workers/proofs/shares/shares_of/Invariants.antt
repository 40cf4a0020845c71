use Rattle.std.proofs.Common.{take, length}
use Rattle.shfl_workers.specs.Shares.{AreShares}
use Rattle.shfl_workers.proofs.shares.shares_of.Given as goal

abbrev pub invariant-loop-call : goal.invariant-loop-call
invariant-loop-call l = AreShares (take l.call-index l.trace.calls.items) (length l.trace.workers.items) l.shares.items
