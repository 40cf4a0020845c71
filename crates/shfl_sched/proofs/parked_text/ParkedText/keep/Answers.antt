use Rattle.std.proofs.Common.{◌≤◌, ◌+◌, ◌*◌, List, ℕ, length, vec_capacity, ap, arith}
use Rattle.shfl_sched.proofs.Parked.{parked_few}
use Rattle.shfl_sched.proofs.Putting.{puts_alone}
use Rattle.shfl_sched.proofs.parked_text.ParkedText.keep.Goals as goal

pub invariant_of-self : goal.invariant_of-self
invariant_of-self g c =
    let w = (g.B.Board.meaning c.args.board.now).world in
    let long = ap (λ (l : List ℕ). length l) c.find_parked.ensures.found in
    let most = parked_few w c.args.passes in
    let few = c.requires.few in
    let passes : 1 + 21 * length c.find_parked.new.found.items ≤ 1345 = omega (arith, long, most, few) in
    let room : 1345 ≤ vec_capacity c.clear.new.self = omega (arith, c.clear.ensures.capacity, c.args.self.now.text_room) in
    let put = rw c.deref.ensures.value at c.put_passes.ensures in
    let written = puts_alone _ _ _ _ 1345 c.clear.ensures.items passes room put in
    record {
      is_text = λ known. written;
      few = let short = put.few in let same = ap (λ (l : List ℕ). length l) written in omega (arith, short, same, passes);
      passes_room = omega (arith, c.args.self.now.passes_room, c.find_parked.ensures.room);
      text_room = let kept = put.kept in omega (arith, kept, room);
    }
