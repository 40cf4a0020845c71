use Rattle.std.proofs.Common.{rules, ◌≡◌, ◌<◌, length, arith}
use Rattle.std.specs.Prelude.{vec_capacity, slice_set}
use Rattle.std.proofs.Math.ListN.{length-set}
use Rattle.shfl_line.specs.Steps.{IsAway}
use Rattle.shfl_line.specs.Shown.{shown}
use Rattle.shfl_line.proofs.OfPasses.{of_join}
use Rattle.shfl_line.proofs.Room.{of_fields, room_in_line}
use Rattle.shfl_line.proofs.line_state.LineState.add_line.Goals as goal

pub push_reserved-requires : goal.push_reserved-requires
push_reserved-requires c =
    let h : length c.self.inside.line.items < vec_capacity c.self.inside.line =
    room_in_line c.self.inside c.args.self.now c.args.pass c.self.view_is c.self.invariant c.requires.named c.requires.away.0 in
    search rules

pub invariant_of-self : goal.invariant_of-self
invariant_of-self c =
    let a = c.self.inside in let s = c.args.self.now in let k = c.self.invariant in
    let e : length (slice_set a.mark.items c.args.pass c.args.mark) ≡ length a.mark.items = length-set a.mark.items c.args.pass c.args.mark in record {
      of_passes = rw (e, c.push_reserved.ensures.items) (of_join (length a.mark.items) c.args.pass (shown a) (slice_set a.mark.items c.args.pass c.args.mark) k.of_passes
          (of_fields a s c.self.view_is (λ t. c.args.pass < length t.mark) c.requires.named) (of_fields a s c.self.view_is (λ t. IsAway t c.args.pass) c.requires.away) e);
      hold_room = let h = k.hold_room in omega arith;
      line_room = let h = k.line_room in let g = c.push_reserved.ensures.capacity in omega arith;
    }
