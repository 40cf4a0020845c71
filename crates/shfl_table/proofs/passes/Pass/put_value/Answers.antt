use Rattle.std.proofs.Common.{arith, ◌+◌, sym, ap, ◌∙◌, Some, None}
use Rattle.shfl_table.specs.PassModel.{BoardId, BoardModel, PassModel}
use Rattle.shfl_table.proofs.Calls.{at, move-kept, move-told, good-in}
use Rattle.shfl_table.proofs.passes.Pass.put_value.Goals as goal

pub around-around-requires : goal.around-around-requires
around-around-requires g c = let i = c.self.inside in let p = ap (λ (m : PassModel _). m.board) c.self.view_is ∙ (c.requires.board ∙ ap (λ (b : BoardModel). b.id) (sym c.board.view_is)) in let slots = ap (λ (b : BoardId). b.table.slots) p in
    let en = at g.V.Kept.initial_state g.V.Kept.history i.rules i.own i.seat.table_id i.seat.me c.self.invariant _ c.args.place None c.self.view_is c.requires.held c.requires.own c.requires.out in
    λ w. let s = en.small w in let n = c.slot_count.ensures in omega arith

pub exchanged-requires-clause-there : goal.exchanged-requires-clause-there
exchanged-requires-clause-there g c = let i = c.self.inside in let p = ap (λ (m : PassModel _). m.board) c.self.view_is ∙ (c.requires.board ∙ ap (λ (b : BoardModel). b.id) (sym c.board.view_is)) in let slots = ap (λ (b : BoardId). b.table.slots) p in
    let en = at g.V.Kept.initial_state g.V.Kept.history i.rules i.own i.seat.table_id i.seat.me c.self.invariant _ c.args.place None c.self.view_is c.requires.held c.requires.own c.requires.out in
    let a = c.around-around.ensures in let left = en.left c.around-around.result.1 (λ w. ap (λ n. n + c.around-around.result.1) (sym a.0) ∙ (a.1 w ∙ (c.slot_count.ensures ∙ sym slots))) (λ w. ap (λ n. n + c.around-around.result.1) (sym a.0) ∙ a.2 w) in
    (en.before, en.after, None, en.is, en.here ∙ sym a.0, left)

pub invariant_of-self : goal.invariant_of-self
invariant_of-self g c = let i = c.self.inside in let p = ap (λ (m : PassModel _). m.board) c.self.view_is ∙ (c.requires.board ∙ ap (λ (b : BoardModel). b.id) (sym c.board.view_is)) in let slots = ap (λ (b : BoardId). b.table.slots) p in
    let en = at g.V.Kept.initial_state g.V.Kept.history i.rules i.own i.seat.table_id i.seat.me c.self.invariant _ c.args.place None c.self.view_is c.requires.held c.requires.own c.requires.out in
    let a = c.around-around.ensures in let left = en.left c.around-around.result.1 (λ w. ap (λ n. n + c.around-around.result.1) (sym a.0) ∙ (a.1 w ∙ (c.slot_count.ensures ∙ sym slots))) (λ w. ap (λ n. n + c.around-around.result.1) (sym a.0) ∙ a.2 w) in
    let e = c.exchanged.ensures in let out = e.there en.before en.after None en.is (en.here ∙ sym a.0) left in
    move-kept g.V.Kept.initial_state g.V.Kept.history i.rules i.own i.seat.table_id i.seat.me c.self.invariant _ c.args.place None c.self.view_is c.requires.held c.requires.own c.requires.out (Some c.args.value) c.exchanged.new.seat.table_id c.exchanged.new.seat.me e.same.0 e.same.2 (good-in g.V.Kept.initial_state g.V.Kept.history i.rules i.own i.seat.table_id i.seat.me c.self.invariant _ c.args.place None c.self.view_is c.requires.held c.requires.own c.requires.out c.args.value (c.requires.initial_state, c.requires.goes_on)) out.0

pub returns : goal.returns
returns g c = let i = c.self.inside in let p = ap (λ (m : PassModel _). m.board) c.self.view_is ∙ (c.requires.board ∙ ap (λ (b : BoardModel). b.id) (sym c.board.view_is)) in let slots = ap (λ (b : BoardId). b.table.slots) p in
    let en = at g.V.Kept.initial_state g.V.Kept.history i.rules i.own i.seat.table_id i.seat.me c.self.invariant _ c.args.place None c.self.view_is c.requires.held c.requires.own c.requires.out in
    let a = c.around-around.ensures in let left = en.left c.around-around.result.1 (λ w. ap (λ n. n + c.around-around.result.1) (sym a.0) ∙ (a.1 w ∙ (c.slot_count.ensures ∙ sym slots))) (λ w. ap (λ n. n + c.around-around.result.1) (sym a.0) ∙ a.2 w) in
    let e = c.exchanged.ensures in let out = e.there en.before en.after None en.is (en.here ∙ sym a.0) left in
    move-told g.V.Kept.initial_state g.V.Kept.history i.rules i.own i.seat.table_id i.seat.me c.self.invariant _ c.args.place None c.self.view_is c.requires.held c.requires.own c.requires.out (Some c.args.value) c.exchanged.new.seat.table_id c.exchanged.new.seat.me e.same.0 e.same.2 (good-in g.V.Kept.initial_state g.V.Kept.history i.rules i.own i.seat.table_id i.seat.me c.self.invariant _ c.args.place None c.self.view_is c.requires.held c.requires.own c.requires.out c.args.value (c.requires.initial_state, c.requires.goes_on)) out.0
