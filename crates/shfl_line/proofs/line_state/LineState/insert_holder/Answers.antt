use Rattle.std.proofs.Common.{rules, ◌≡◌, ◌∙◌, ℕ, ◌<◌, List, refl, ap, subst, length, arith}
use Rattle.std.specs.Prelude.{vec_capacity}
use Rattle.std.specs.List.{insert}
use Rattle.shfl_line.specs.declared.events.Mode.{Mode}
use Rattle.shfl_line.specs.Steps.{add_holder}
use Rattle.shfl_line.specs.Shown.{shown}
use Rattle.shfl_line.proofs.OfPasses.{of_hold}
use Rattle.shfl_line.proofs.Room.{room_to_hold, holders_rise, kept_as}
use Rattle.shfl_line.proofs.line_state.LineState.insert_holder.Goals as goal

pub insert_reserved-requires-clause-room : goal.insert_reserved-requires-clause-room
insert_reserved-requires-clause-room c =
    let h : length c.self.inside.hold.items < vec_capacity c.self.inside.hold =
    room_to_hold c.self.inside c.args.self.now c.args.pass c.args.mode c.self.view_is c.self.invariant c.requires.named c.requires.new in
    search rules

pub invariant_of-self : goal.invariant_of-self
invariant_of-self c = let a = c.self.inside in let k = c.self.invariant in
    let e : c.insert_reserved.new.list.items ≡ add_holder c.args.pass c.args.mode a.hold.items =
    c.insert_reserved.ensures.items ∙ subst (λ (l : List (ℕ × Mode)). insert l c.place_for-at.result (c.args.pass, c.args.mode) ≡ add_holder c.args.pass c.args.mode l) c.deref.ensures.value (c.place_for-at.ensures.place c.args.mode) in
    kept_as a _ (record (shown a) { hold = add_holder c.args.pass c.args.mode a.hold.items }) k (ap (λ (l : List (ℕ × Mode)). record (shown a) { hold = l }) e) refl
    (of_hold (length a.mark.items) (shown a) (add_holder c.args.pass c.args.mode a.hold.items) k.of_passes
    (holders_rise a c.args.self.now c.args.pass c.args.mode c.self.view_is k c.requires.named c.requires.new))
    c.insert_reserved.ensures.capacity (omega arith)
