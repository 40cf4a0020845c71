use Rattle.shard_rows.proofs.Shared.{advanced_after}
use Rattle.shard_rows.proofs.Numbered.{next_is, numbered_after}
use Rattle.shard_rows.proofs.laws.numbers_carry_changes.Goals as goal

pub returns-clause-names : goal.returns-clause-names
returns-clause-names c d call k numbered = advanced_after d numbered k call

pub returns-clause-next : goal.returns-clause-next
returns-clause-next c d call numbered = next_is d numbered call

pub returns-clause-numbered : goal.returns-clause-numbered
returns-clause-numbered c d call numbered = numbered_after d numbered call
