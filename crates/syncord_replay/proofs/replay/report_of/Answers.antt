use Rattle.std.proofs.Common.{map}
use Rattle.trace_text.specs.Report.{done_of}
use Rattle.syncord_replay.proofs.replay.report_of.Goals as goal

pub returns : goal.returns
returns g c =
    let run = c.requires.leaves _ _ _ c.in_ok-outcome.ensures in
    record {
      history = map done_of c.in_ok-outcome.outcome.history.items;
      final = c.in_ok-outcome.outcome.dir;
      is_history = run.history;
      ran = run.ran;
      told = rw (c.as_slice.ensures.value, c.rows-attaches.ensures, run.versions) at c.in_ok-text.ensures;
    }
