use Rattle.std.proofs.Common.{◌<◌, ◌∷◌, [], ◌++◌, length, vec_len, vec_capacity, sym, ap, ◌∙◌, List, ℕ, arith}
use Rattle.shfl_sched.proofs.Parked.{one_more, none_more, parked_few, pushed_within}
use Rattle.shfl_sched.proofs.parked_text.find_parked.Goals as goal
use Rattle.shfl_sched.proofs.parked_text.find_parked.Goals.{then-asleep, else-asleep}

pub loop-pass-preserved : goal.loop-pass-preserved
loop-pass-preserved g c =
    let w = (g.B.Board.meaning c.args.board.now).world in
    let few = parked_few w c.loop-pass.pass in
    let so_far = ap (λ (l : List ℕ). length l) c.loop-pass.invariant.found in
    let long = c.loop-pass.found.ok.0 in
    let lt = c.loop-pass-test.true in
    let fits : vec_len c.loop-pass.found < vec_capacity c.loop-pass.found = omega (arith, few, so_far, long, lt, c.requires.room, c.loop-pass.invariant.room) in
    elim c.if-asleep.branch [
      | then-asleep t ↦ rw t.found-is (record {
        found = pushed_within t.push-found.result t.push-found.new.self.items c.loop-pass.found.items (c.loop-pass.pass ∷ []) (t.push-found.ensures.succeeds fits) t.push-found.ensures.items
            ∙ ap (λ (l : List ℕ). l ++ c.loop-pass.pass ∷ []) c.loop-pass.invariant.found ∙ sym (one_more w c.loop-pass.pass (sym c.asleep.ensures ∙ t.if-asleep.true));
        room = let more = t.push-found.ensures.capacity in let room = c.loop-pass.invariant.room in omega (arith, room, more);
      })
      | else-asleep e ↦ rw e.found-is (record {
        found = c.loop-pass.invariant.found ∙ sym (none_more w c.loop-pass.pass (sym c.asleep.ensures ∙ e.if-asleep.false));
        room = c.loop-pass.invariant.room;
      })
    ]
