use Rattle.std.proofs.Common.{rules, ◌≡◌, ◌∙◌, ℕ, suc, ◌+◌, ◌<◌, List, None, refl, ap, subst, length, arith}
use Rattle.std.specs.Prelude.{vec_capacity}
use Rattle.std.specs.List.{insert}
use Rattle.shfl_line.specs.Words.{link_word}
use Rattle.shfl_line.specs.Line.{Line, mark_of}
use Rattle.shfl_line.specs.Passes.{times, last_marked, put_behind}
use Rattle.shfl_line.specs.Steps.{batch_end}
use Rattle.shfl_line.specs.Shown.{shown}
use Rattle.shfl_line.proofs.Behind.{last-inside}
use Rattle.shfl_line.proofs.OfPasses.{of_attach, hand_away, line_room}
use Rattle.shfl_line.proofs.Room.{of_fields, kept_as}
use Rattle.shfl_line.proofs.line_state.LineState.attach.Goals as goal

-- where there is a batch, its last stands in the line
end_inside : (s : Line) → 0 < last_marked (mark_of s) s.line → 0 < times (batch_end s) s.line
end_inside s h = (last-inside (mark_of s) (batch_end s) s.line (omega arith)).0

pub insert_reserved-requires-clause-room : goal.insert_reserved-requires-clause-room
insert_reserved-requires-clause-room c = let a = c.self.inside in let k = c.self.invariant in
    let e : link_word a.hand ≡ suc c.in-Some.waiter = ap link_word c.in-Some.is in
    let t = hand_away (length a.mark.items) c.in-Some.waiter (shown a) k.of_passes e in
    let r = line_room (length a.mark.items) c.in-Some.waiter (shown a) k.of_passes t.0 t.1 in
    let h : length a.line.items < vec_capacity a.line = (let x = k.line_room in omega arith) in search rules

pub invariant_of-self : goal.invariant_of-self
invariant_of-self c = let a = c.self.inside in let k = c.self.invariant in let waiter = c.in-Some.waiter in
    let end : c.batch_end-end.result ≡ batch_end (shown a) = of_fields a c.args.self.now c.self.view_is (λ t. c.batch_end-end.result ≡ batch_end t) c.batch_end-end.ensures in
    let put : insert c.deref.result.now (c.in-Some-place_of.at + 1) waiter ≡ put_behind c.batch_end-end.result waiter c.deref.result.now = c.in-Some-place_of.ensures.2 waiter in
    let e : c.insert_reserved.new.list.items ≡ put_behind (batch_end (shown a)) waiter a.line.items =
    c.insert_reserved.ensures.items ∙ (subst (λ (l : List ℕ). insert l (c.in-Some-place_of.at + 1) waiter ≡ put_behind c.batch_end-end.result waiter l) c.deref.ensures.value put
    ∙ ap (λ q. put_behind q waiter a.line.items) end) in
    let h : link_word a.hand ≡ suc waiter = ap link_word c.in-Some.is in
    let inside : 0 < times (batch_end (shown a)) a.line.items = of_fields a c.args.self.now c.self.view_is (λ t. 0 < times (batch_end t) t.line) (end_inside c.args.self.now c.requires.batch) in
    kept_as a _ (record (shown a) { line = put_behind (batch_end (shown a)) waiter a.line.items; hand = None }) k (ap (λ (l : List ℕ). record (shown a) { line = l; hand = None }) e) refl
    (of_attach (length a.mark.items) (batch_end (shown a)) waiter (shown a) k.of_passes h inside) (omega arith) c.insert_reserved.ensures.capacity

pub returns-in_default-place_of : goal.returns-in_default-place_of
returns-in_default-place_of c =
    let i : 0 < times (batch_end c.args.self.now) c.args.self.now.line = end_inside c.args.self.now c.requires.batch in
    let z : times c.batch_end-end.result c.deref.result.now ≡ 0 = c.in_default-place_of.ensures in
    let y : times (batch_end c.args.self.now) c.deref.result.now ≡ 0 = subst (λ q. times q c.deref.result.now ≡ 0) c.batch_end-end.ensures z in
    let x : times (batch_end c.args.self.now) c.self.inside.line.items ≡ 0 = subst (λ (l : List ℕ). times (batch_end c.args.self.now) l ≡ 0) c.deref.ensures.value y in
    let w : times (batch_end c.args.self.now) c.args.self.now.line ≡ 0 = subst (λ (t : Line). times (batch_end c.args.self.now) t.line ≡ 0) c.self.view_is x in
    absurd (omega arith)
