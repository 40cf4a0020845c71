use Rattle.std.proofs.Common.{arith, ◌+◌, sym, ap, ◌∙◌, Some}
use Rattle.shfl_table.specs.PassModel.{BoardId, BoardModel, PassModel}
use Rattle.shfl_table.proofs.Calls.{at, move-kept, move-told, good-in}
use Rattle.shfl_table.proofs.passes.Pass.visit.Goals as goal

pub around-around-requires : goal.around-around-requires
around-around-requires g c = let i = c.self.inside in let p = ap (λ (m : PassModel _). m.board) c.self.view_is ∙ (c.requires.board ∙ ap (λ (b : BoardModel). b.id) (sym c.board.view_is)) in let slots = ap (λ (b : BoardId). b.table.slots) p in
    let r = c.requires.ready in
    let en = at g.V.Kept.initial_state g.V.Kept.history i.rules i.own i.seat.table_id i.seat.me c.self.invariant _ c.args.place (Some r.0) c.self.view_is c.requires.held c.requires.own r.1 in
    λ w. let s = en.small w in let n = c.slot_count.ensures in omega arith

pub visited-requires-clause-there : goal.visited-requires-clause-there
visited-requires-clause-there g c = let i = c.self.inside in let p = ap (λ (m : PassModel _). m.board) c.self.view_is ∙ (c.requires.board ∙ ap (λ (b : BoardModel). b.id) (sym c.board.view_is)) in let slots = ap (λ (b : BoardId). b.table.slots) p in
    let r = c.requires.ready in
    let en = at g.V.Kept.initial_state g.V.Kept.history i.rules i.own i.seat.table_id i.seat.me c.self.invariant _ c.args.place (Some r.0) c.self.view_is c.requires.held c.requires.own r.1 in
    let a = c.around-around.ensures in let left = en.left c.around-around.result.1 (λ w. ap (λ n. n + c.around-around.result.1) (sym a.0) ∙ (a.1 w ∙ (c.slot_count.ensures ∙ sym slots))) (λ w. ap (λ n. n + c.around-around.result.1) (sym a.0) ∙ a.2 w) in
    (en.before, en.after, r.0, en.is, en.here ∙ sym a.0, left, r.2)

pub invariant_of-self : goal.invariant_of-self
invariant_of-self g c = let i = c.self.inside in let p = ap (λ (m : PassModel _). m.board) c.self.view_is ∙ (c.requires.board ∙ ap (λ (b : BoardModel). b.id) (sym c.board.view_is)) in let slots = ap (λ (b : BoardId). b.table.slots) p in
    let r = c.requires.ready in
    let en = at g.V.Kept.initial_state g.V.Kept.history i.rules i.own i.seat.table_id i.seat.me c.self.invariant _ c.args.place (Some r.0) c.self.view_is c.requires.held c.requires.own r.1 in
    let a = c.around-around.ensures in let left = en.left c.around-around.result.1 (λ w. ap (λ n. n + c.around-around.result.1) (sym a.0) ∙ (a.1 w ∙ (c.slot_count.ensures ∙ sym slots))) (λ w. ap (λ n. n + c.around-around.result.1) (sym a.0) ∙ a.2 w) in
    let e = c.visited.ensures in let v = e.there en.before en.after r.0 en.is (en.here ∙ sym a.0) left in
    move-kept g.V.Kept.initial_state g.V.Kept.history i.rules i.own i.seat.table_id i.seat.me c.self.invariant _ c.args.place (Some r.0) c.self.view_is c.requires.held c.requires.own r.1 (Some v.0) c.visited.new.seat.table_id c.visited.new.seat.me e.same.0 e.same.2 (good-in g.V.Kept.initial_state g.V.Kept.history i.rules i.own i.seat.table_id i.seat.me c.self.invariant _ c.args.place (Some r.0) c.self.view_is c.requires.held c.requires.own r.1 v.0 (c.requires.leaves r.0 c.visited.result v.0 r.1 v.1)) v.2

pub returns : goal.returns
returns g c = record {
  done = λ x there. let i = c.self.inside in let p = ap (λ (m : PassModel _). m.board) c.self.view_is ∙ (c.requires.board ∙ ap (λ (b : BoardModel). b.id) (sym c.board.view_is)) in let slots = ap (λ (b : BoardId). b.table.slots) p in
      let en = at g.V.Kept.initial_state g.V.Kept.history i.rules i.own i.seat.table_id i.seat.me c.self.invariant _ c.args.place (Some x) c.self.view_is c.requires.held c.requires.own there in
      let a = c.around-around.ensures in let left = en.left c.around-around.result.1 (λ w. ap (λ n. n + c.around-around.result.1) (sym a.0) ∙ (a.1 w ∙ (c.slot_count.ensures ∙ sym slots))) (λ w. ap (λ n. n + c.around-around.result.1) (sym a.0) ∙ a.2 w) in
      let e = c.visited.ensures in let v = e.there en.before en.after x en.is (en.here ∙ sym a.0) left in (
        v.0,
        v.1,
        move-told g.V.Kept.initial_state g.V.Kept.history i.rules i.own i.seat.table_id i.seat.me c.self.invariant _ c.args.place (Some x) c.self.view_is c.requires.held c.requires.own there (Some v.0) c.visited.new.seat.table_id c.visited.new.seat.me e.same.0 e.same.2 (good-in g.V.Kept.initial_state g.V.Kept.history i.rules i.own i.seat.table_id i.seat.me c.self.invariant _ c.args.place (Some x) c.self.view_is c.requires.held c.requires.own there v.0 (c.requires.leaves x c.visited.result v.0 there v.1)) v.2,
      );
}
