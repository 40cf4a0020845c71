use Rattle.std.proofs.Crossing.{crosses}
use denote.Param.Send.{sendable}
use Rattle.dir_shards.proofs.Crossing.{dir_sync}
use Rattle.shfl_workers.proofs.run.run_shards.Goals as goal

pub run_on-requires-sync-D : goal.run_on-requires-sync-D
run_on-requires-sync-D g c κs within = search (sendable, crosses, dir_sync) depth 60 fits 20000
