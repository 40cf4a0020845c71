use Rattle.syncord_rounds.proofs.queue.told_of.Goals as goal

pub returns : goal.returns
returns g c = record {
  history = c.in_ok-outcome.outcome.history.items;
  final = c.in_ok-outcome.outcome.dir;
  is_history = c.in_ok-outcome.ensures.history;
  logs = c.in_ok-outcome.outcome.rounds.items;
  ran = c.in_ok-outcome.ensures.ran;
  rounds = c.in_ok-outcome.ensures.rounds;
  kept = rw c.as_slice-logs.ensures.value at c.in_ok-text.ensures.kept;
  told = rw (c.in_ok-report.ensures, c.as_slice-history.ensures.value, c.as_slice-logs.ensures.value) at c.in_ok-text.ensures.text;
}
