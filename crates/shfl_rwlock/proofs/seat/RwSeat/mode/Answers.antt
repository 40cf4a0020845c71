use Rattle.std.proofs.Common.{sym, ap, ◌∙◌, reverse}
use Rattle.std.proofs.lemmas.List.{reverse-reverse}
use Rattle.shfl_arena.specs.Threads.{mode_held}
use Rattle.shfl_rwlock.specs.RwSeats.{RwSeatModel}
use Rattle.shfl_rwlock.proofs.Stacks.{mode-reverse}
use Rattle.shfl_rwlock.proofs.seat.RwSeat.mode.Goals as goal

pub returns : goal.returns
returns g c = let held = c.self.inside.held.items in
    c.mode_in.ensures ∙ (ap (mode_held c.args.lock) (c.as_slice.ensures.value ∙ sym (reverse-reverse held))
    ∙ (mode-reverse c.args.lock (reverse held) c.self.invariant.0.apart ∙ ap (λ (m : RwSeatModel). mode_held c.args.lock m.held) c.self.view_is))
