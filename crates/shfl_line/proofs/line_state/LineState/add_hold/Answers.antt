use Rattle.std.proofs.Common.{rules, ◌≡◌, ℕ, zero, suc, ◌<◌, ◌++◌, ◌∷◌, [], length, refl, arith}
use Rattle.std.specs.Prelude.{vec_capacity}
use Rattle.shfl_line.specs.Line.{holds, Rises}
use Rattle.shfl_line.specs.Shown.{shown}
use Rattle.shfl_line.proofs.Holders.{rises-push}
use Rattle.shfl_line.proofs.OfPasses.{of_hold}
use Rattle.shfl_line.proofs.Room.{of_fields, room_to_hold}
use Rattle.shfl_line.proofs.line_state.LineState.add_hold.Goals as goal

-- the one that is added doesn't hold
new-holder : (p : ℕ) (hold : ℕ → ℕ) → ((q : ℕ) → 0 < hold q → q < p) → hold p ≡ 0
new-holder p hold f = by (hold p) refl
  where
    by : (n : ℕ) → hold p ≡ n → hold p ≡ 0
    by zero e = e
    by (suc n) e = absurd (let a = f p (omega arith) in omega arith)

pub push_reserved-requires : goal.push_reserved-requires
push_reserved-requires c =
    let s = c.args.self.now in
    let h : length c.self.inside.hold.items < vec_capacity c.self.inside.hold =
    room_to_hold c.self.inside s c.args.pass c.args.mode c.self.view_is c.self.invariant c.requires.named (new-holder c.args.pass (λ q. holds q s.hold) c.requires.above) in
    search rules

pub invariant_of-self : goal.invariant_of-self
invariant_of-self c =
    let a = c.self.inside in let s = c.args.self.now in let k = c.self.invariant in
    let risen : Rises 0 (length a.mark.items) (a.hold.items ++ (c.args.pass, c.args.mode) ∷ []) =
    rises-push 0 (length a.mark.items) c.args.pass c.args.mode a.hold.items (omega arith)
    (of_fields a s c.self.view_is (λ t. c.args.pass < length t.mark) c.requires.named)
    (of_fields a s c.self.view_is (λ t. (q : ℕ) → 0 < holds q t.hold → q < c.args.pass) c.requires.above) k.of_passes.hold in record {
      of_passes = rw c.push_reserved.ensures.items (of_hold (length a.mark.items) (shown a) (a.hold.items ++ (c.args.pass, c.args.mode) ∷ []) k.of_passes risen);
      hold_room = let h = k.hold_room in let e = c.push_reserved.ensures.capacity in omega arith;
      line_room = k.line_room;
    }
