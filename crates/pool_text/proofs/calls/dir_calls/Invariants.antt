use Rattle.std.proofs.Common.{◌≡◌, ◌++◌, drop}
use Rattle.pool_text.specs.PoolDocuments.{calls_of}
use Rattle.pool_text.proofs.calls.dir_calls.Given as goal

abbrev pub invariant-loop-call : goal.invariant-loop-call
invariant-loop-call l = l.calls.items ++ calls_of (drop l.call-index l.trace.calls.items) ≡ calls_of l.trace.calls.items
