use Rattle.std.proofs.Common.{◌≡◌, ◌++◌, ◌-◌}
use Rattle.trace_text.specs.Generator.{workers_from}
use Rattle.trace_text.proofs.generator.attributes.Given as goal

-- the workers so far and those that are left are all
abbrev pub invariant-loop-worker : goal.invariant-loop-worker
invariant-loop-worker l = l.attributes.items ++ workers_from l.worker (l.workers - l.worker) ≡ workers_from 0 l.workers
