use Rattle.std.proofs.Common.{◌≡◌, ◌<◌, ◌++◌, ◌-◌, ◌%◌}
use Rattle.trace_text.specs.CallLists.{list_said, IsListOf}
use Rattle.trace_text.specs.Generator.{calls_from}
use Rattle.trace_text.proofs.generator.drawn_calls.Given as goal

-- the calls so far and those that are left are all
abbrev pub invariant-loop-call : goal.invariant-loop-call
invariant-loop-call l = record {
  state : l.state < 2147483648;
  list : IsListOf l.workers l.policies l.list;
  told : list_said l.policies l.list ++ calls_from l.workers l.call l.state (l.calls - l.call) ≡ calls_from l.workers 0 (l.seed % 2147483648) l.calls;
}
