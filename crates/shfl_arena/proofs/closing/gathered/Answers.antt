use Rattle.std.proofs.Common.{arith, ◌≡◌, ◌<◌, ◌++◌, List, Option, Some, sym, ap, ◌∙◌, subst, All, IfSome, option_to_list}
use Rattle.std.proofs.lemmas.List.Elements.{All-pop}
use Rattle.shfl_arena.specs.declared.view.SeatView.{SeatView}
use Rattle.shfl_arena.specs.SeatModels.{ArenaId, ArenaModel, SeatModel, IsNewAt}
use Rattle.shfl_arena.proofs.Returns.{joins}
use Rattle.shfl_arena.proofs.closing.gathered.Goals as goal

-- one seat of these, and the others
one-of : {X : Type 0} (id : ArenaId) (xs ys : List (SeatModel X)) (r : Option (SeatModel X)) (x : SeatModel X) → r ≡ Some x → xs ≡ ys ++ option_to_list r → All (IsNewAt {X = X} id) xs → All (IsNewAt {X = X} id) ys × IsNewAt {X = X} id x
one-of {X} id xs ys r x is items all = let p = All-pop (IsNewAt {X = X} id) xs ys r items all in (p.0, subst (λ o. IfSome o (IsNewAt {X = X} id)) is p.1)

pub table_seat-desk-requires-clause-rests : goal.table_seat-desk-requires-clause-rests
table_seat-desk-requires-clause-rests g c = (one-of c.args.arena.now.id c.args.seats.items c.pop.new.self.items c.pop.result c.in-Some.first c.in-Some.is c.pop.ensures.items c.requires.seats).1.1

pub table_seat-desk-requires-clause-nothing : goal.table_seat-desk-requires-clause-nothing
table_seat-desk-requires-clause-nothing g c = let p = one-of c.args.arena.now.id c.args.seats.items c.pop.new.self.items c.pop.result c.in-Some.first c.in-Some.is c.pop.ensures.items c.requires.seats in (p.1.2, p.1.3)

pub loop-seat-init : goal.loop-seat-init
loop-seat-init g c = let p = one-of c.args.arena.now.id c.args.seats.items c.pop.new.self.items c.pop.result c.in-Some.first c.in-Some.is c.pop.ensures.items c.requires.seats in
    let e = c.table_seat-desk.ensures.stands in let one = e.0 in let n = c.in-Some.ensures.cases in
    (c.table_seat-desk.ensures.table ∙ ap (λ (z : ArenaId). z.table) p.1.0, p.0, omega arith, omega arith, e.1, e.2, e.3)

pub table_seat-other-requires-clause-rests : goal.table_seat-other-requires-clause-rests
table_seat-other-requires-clause-rests g c = (one-of c.args.arena.now.id c.loop-seat.seats.items c.pop-in-loop-seat.new.self.items c.pop-in-loop-seat.result c.in-Some-pop.seat c.in-Some-pop.is c.pop-in-loop-seat.ensures.items c.loop-seat.invariant.1).1.1

pub table_seat-other-requires-clause-nothing : goal.table_seat-other-requires-clause-nothing
table_seat-other-requires-clause-nothing g c = let p = one-of c.args.arena.now.id c.loop-seat.seats.items c.pop-in-loop-seat.new.self.items c.pop-in-loop-seat.result c.in-Some-pop.seat c.in-Some-pop.is c.pop-in-loop-seat.ensures.items c.loop-seat.invariant.1 in (p.1.2, p.1.3)

pub join_seat-requires : goal.join_seat-requires
join_seat-requires g c = let i = c.loop-seat.invariant in let e = c.table_seat-other.ensures.stands in let key = c.arena.inside.table.shared.key in let b = ap (λ (z : ArenaModel). z.id.table) (sym c.arena.view_is) in
    let p = one-of c.args.arena.now.id c.loop-seat.seats.items c.pop-in-loop-seat.new.self.items c.pop-in-loop-seat.result c.in-Some-pop.seat c.in-Some-pop.is c.pop-in-loop-seat.ensures.items i.1 in
    let words : 0 < c.arena.inside.table.shared.table_id.words = (let w = c.arena.invariant.0 in let n = c.arena.invariant.2 in omega arith) in
    (i.0 ∙ b, c.table_seat-other.ensures.table ∙ (ap (λ (z : ArenaId). z.table) p.1.0 ∙ b), e.3, words, joins key.shape key.rules key.threads _ _ _ _ i.2 e.1 e.2)

pub loop-seat-preserved : goal.loop-seat-preserved
loop-seat-preserved g c = let i = c.loop-seat.invariant in let j = c.join_seat.ensures in let n = c.in-Some-pop.ensures.cases in
    let p = one-of c.args.arena.now.id c.loop-seat.seats.items c.pop-in-loop-seat.new.self.items c.pop-in-loop-seat.result c.in-Some-pop.seat c.in-Some-pop.is c.pop-in-loop-seat.ensures.items i.1 in
    let seats = ap (λ (m : SeatView × List _). m.0.seats) j.2 in let one = c.table_seat-other.ensures.stands.0 in let some = i.2 in let sum = i.3 in
    (j.0 ∙ i.0, p.0, omega arith, omega arith, ap (λ (m : SeatView × List _). m.0.thread.at) j.2 ∙ i.4, ap (λ (m : SeatView × List _). m.0.thread.holds) j.2 ∙ i.5, ap (λ (m : SeatView × List _). m.1) j.2 ∙ i.6)

pub returns-clause-stands : goal.returns-clause-stands
returns-clause-stands g c = let i = c.loop-seat.invariant in let n = c.in_default-pop.ensures.cases.0 in let sum = i.3 in (omega arith, i.4, i.5, i.6)
