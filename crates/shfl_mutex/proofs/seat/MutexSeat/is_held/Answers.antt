use Rattle.std.proofs.Common.{sym, ap, ◌∙◌}
use Rattle.shfl_mutex.specs.Held.{is_among}
use Rattle.shfl_mutex.specs.MutexSeats.{MutexSeatModel}
use Rattle.shfl_mutex.proofs.Stacks.{among-reverse}
use Rattle.shfl_mutex.proofs.seat.MutexSeat.is_held.Goals as goal

pub returns : goal.returns
returns g c = c.contains.ensures.value ∙ (ap (is_among c.args.lock) c.deref.ensures.value ∙ (sym (among-reverse c.args.lock c.self.inside.held.items) ∙ ap (λ (m : MutexSeatModel). is_among c.args.lock m.held) c.self.view_is))
