use Rattle.syncord_pool.proofs.WithoutPlaces.{are_answered, leave_it}
use Rattle.syncord_pool.proofs.report.report_of.Goals as goal

pub returns : goal.returns
returns g c =
    let t = c.args.trace.now in
    let entries = c.in_ok-outcome.outcome.history.items in
    let final = c.in_ok-outcome.outcome.dir in
    let run = c.requires.leaves _ _ _ c.in_ok-outcome.ensures in
    record {
      history = entries;
      final = final;
      is_history = run.pooled;
      ran = run.ran;
      answered = are_answered t entries run.pooled.is_history.legal;
      leaves = leave_it t entries final run.pooled.leaves;
      told = rw c.as_slice.ensures.value at c.in_ok-text.ensures;
    }
