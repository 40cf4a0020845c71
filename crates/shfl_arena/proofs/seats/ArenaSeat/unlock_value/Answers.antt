use Rattle.std.proofs.Common.{ap}
use Rattle.shfl_arena.specs.SeatModels.{SeatModel}
use Rattle.shfl_arena.proofs.Mutexes.{put-front}
use Rattle.shfl_arena.proofs.seats.ArenaSeat.unlock_value.Goals as goal

pub free-requires-clause-value : goal.free-requires-clause-value
free-requires-clause-value g c _ h = put-front c.args.lock c.args.value c.args.self.now.values c.put_value.new.self.values (ap (λ (m : SeatModel _). m.values) c.put_value.ensures)
