use Rattle.dir_shards.specs.Naming.{locks_of}
use Rattle.shfl_workers.proofs.AskedTurns.{in_turn_whole}
use Rattle.shfl_workers.proofs.shard_dir.ShardsSharedDir.call.Goals as goal

pub returns-clause-whole : goal.returns-clause-whole
returns-clause-whole g c = in_turn_whole c.args.pass.now c.apply.new.pass (locks_of c.args.call.now) _ _ c.apply.ensures.asked.in_turn
