-- A legal list of entries is a legal history of the directory as an object.
use Rattle.std.proofs.Common.{◌≡◌, ap, ◌∙◌, subst, List, [], ◌∷◌}
use Rattle.hist_log.specs.History as history
use Rattle.hist_log.specs.History.{operations}
use Rattle.dir_table.specs.Directory.{Directory}
use Rattle.dir_table.specs.Answers.{after}
use Rattle.dir_table.specs.Numbers.{call_numbers, reply_numbers, state_numbers}
use Rattle.dir_table.specs.Meanings.{reply_at, state_after}
use Rattle.dir_table.specs.ObjectLaws.{reply_as, state_as}
use Rattle.shard_rows.specs.Replay.{DirEntry, IsLegal}

pub legal_numbers : (d : Directory) (es : List DirEntry) → IsLegal d es → history.IsLegal reply_at state_after (state_numbers d) (operations call_numbers reply_numbers es)
legal_numbers d [] legal = tt
legal_numbers d (e ∷ es) legal = (
  ap reply_numbers legal.0 ∙ reply_as d e.call,
  subst (λ s. history.IsLegal reply_at state_after s (operations call_numbers reply_numbers es)) (state_as d e.call) (legal_numbers (after d e.call) es legal.1),
)
