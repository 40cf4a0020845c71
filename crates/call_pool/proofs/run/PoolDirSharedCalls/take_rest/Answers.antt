use Rattle.std.proofs.Common.{rules}
use Rattle.shfl_table.specs.Waits.{answers_of}
use Rattle.round_log.proofs.WholeRounds.{asks_whole}
use Rattle.call_pool.proofs.run.PoolDirSharedCalls.take_rest.Goals as goal

pub returns-clause-whole : goal.returns-clause-whole
returns-clause-whole g c = asks_whole (answers_of c.args.pass.now.cell.attr) c.args.pass.now.cell.decisions c.take_all.new.pass.cell.decisions _ _ (search rules)
