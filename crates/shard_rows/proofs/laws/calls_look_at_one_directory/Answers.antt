use Rattle.shard_rows.proofs.Named.{reply_named, number_named}
use Rattle.shard_rows.proofs.laws.calls_look_at_one_directory.Goals as goal

pub returns-clause-reply : goal.returns-clause-reply
returns-clause-reply c d call = reply_named d call

pub returns-clause-number : goal.returns-clause-number
returns-clause-number c d call = number_named d call
