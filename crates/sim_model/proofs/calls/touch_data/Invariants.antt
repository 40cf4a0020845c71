use Rattle.std.proofs.Common.{◌≡◌}
use Rattle.sim_model.specs.Calls.{data_touched}
use Rattle.sim_model.proofs.calls.touch_data.Given as goal

abbrev pub invariant-loop-datum : goal.invariant-loop-datum
invariant-loop-datum l = let d = data_touched l.costs l.core l.load l.at l.initial.lines l.initial.sums l.datum in record {
  ends : l.ends ≡ d.ends;
  lines : l.lines ≡ d.lines;
  reaches : l.sums ≡ d.reaches;
}
