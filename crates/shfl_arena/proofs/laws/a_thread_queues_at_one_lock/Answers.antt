use Rattle.shfl_arena.proofs.Headlines.{queues-at-one}
use Rattle.shfl_arena.proofs.laws.a_thread_queues_at_one_lock.Goals as goal

pub returns : goal.returns
returns c = record { law = queues-at-one }
