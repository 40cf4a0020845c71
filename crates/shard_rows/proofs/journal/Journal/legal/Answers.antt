use Rattle.std.proofs.Common.{◌≡◌, subst}
use Rattle.std.specs.FinMap.{entries}
use Rattle.hist_log.specs.History as history
use Rattle.hist_log.specs.History.{operations}
use Rattle.dir_table.specs.Numbers.{call_numbers, reply_numbers, state_numbers}
use Rattle.dir_table.specs.Meanings.{reply_at, state_after}
use Rattle.shard_rows.specs.Replay.{opening}
use Rattle.shard_rows.proofs.ByNumbers.{legal_numbers}
use Rattle.shard_rows.specs.Values.{JournalValue, names_after, rows_below}
use Rattle.shard_rows.proofs.Rows.{none_of_0, all_below}
use Rattle.shard_rows.proofs.Sizes.{known_names}
use Rattle.shard_rows.proofs.journal.Journal.legal.Goals as goal

pub returns-clause-history : goal.returns-clause-history
returns-clause-history c =
    subst (λ (j : JournalValue). history.IsLegal reply_at state_after (state_numbers (opening j.room)) (operations call_numbers reply_numbers j.entries)) c.self.view_is
    (legal_numbers (opening c.self.inside.room) c.self.inside.entries.items c.self.invariant.legal)

pub returns-clause-first : goal.returns-clause-first
returns-clause-first c = none_of_0 (entries (names_after c.args.self.now))

pub returns-clause-last : goal.returns-clause-last
returns-clause-last c =
    subst (λ (j : JournalValue). rows_below j 64 ≡ entries (names_after j)) c.self.view_is
    (all_below 64 _ (known_names c.self.inside.room c.self.inside.entries.items c.self.invariant.admitted))
