use Rattle.std.proofs.Common.{map}
use Rattle.trace_text.specs.Report.{done_of}
use Rattle.syncord_rounds.proofs.run.told_of.Goals as goal

pub returns : goal.returns
returns g c = record {
  lock = c.lock_for-lock.result;
  chosen = c.lock_for-lock.ensures;
  history = map done_of c.in_ok-outcome.outcome.history.items;
  final = c.in_ok-outcome.outcome.dir;
  is_history = c.in_ok-outcome.ensures.history;
  ran = c.in_ok-outcome.ensures.ran;
  logs = c.in_ok-outcome.outcome.rounds.items;
  rounds = c.in_ok-outcome.ensures.rounds;
  kept = rw c.as_slice-logs.ensures.value at c.in_ok-text.ensures.kept;
  told = rw (c.in_ok-report.ensures, c.as_slice-history.ensures.value, c.rows-attaches.ensures, c.in_ok-outcome.ensures.versions, c.word-word.ensures, c.as_slice-logs.ensures.value) at c.in_ok-text.ensures.text;
}
