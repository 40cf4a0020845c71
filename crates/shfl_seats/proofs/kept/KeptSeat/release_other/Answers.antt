use Rattle.shfl_seats.specs.Listed.{listed}
use Rattle.shfl_seats.proofs.HoldsAgree.{freed-agree}
use Rattle.shfl_seats.proofs.kept.KeptSeat.release_other.Goals as goal

pub invariant_of-self : goal.invariant_of-self
invariant_of-self c = let i = c.self.inside in (
  freed-agree c.args.lock c.in-Some.mode i.seat c.leave.new.self (listed i.stand i.others.items) (listed c.forget.new.stand c.forget.new.others.items) c.self.invariant.0 c.forget.ensures.items c.leave.ensures.frees,
  c.forget.ensures.empty,
  c.forget.ensures.pass c.leave.new.self.own,
  λ moves. absurd (let rests = c.leave.ensures.frees.rests in cc),
)
