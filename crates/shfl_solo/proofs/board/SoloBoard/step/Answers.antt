use Rattle.std.proofs.Common.{rules, arith, ◌≡◌, ◌<◌, length, refl, set, sym, ap, ◌∙◌, subst}
use Rattle.std.specs.Prelude.{vec_len}
use Rattle.atomic_table.specs.Table.{Me}
use Rattle.shfl_core.specs.Words as words
use Rattle.shfl_core.specs.Worlds.{Step}
use Rattle.shfl_world.proofs.Moving.{shows-event, admits-event, keeps-terms}
use Rattle.shfl_solo.specs.declared.rule.Whole.{Whole}
use Rattle.shfl_solo.specs.Rule.{lock, Steps}
use Rattle.shfl_solo.proofs.Moved.{read, moves, makes-row}
use Rattle.shfl_solo.proofs.Kept.{lawful, long, place, seen, row-told, row-kept, read-again}
use Rattle.shfl_solo.proofs.Rounds.{begins-short}
use Rattle.shfl_solo.proofs.board.SoloBoard.step.Goals as goal

pub operate-found-requires-clause-place : goal.operate-found-requires-clause-place
operate-found-requires-clause-place c = let i = c.self.inside in let l = i.last in let own = c.index-own.result.now in
    let at = read l.rules i.seat.me.0.words l.passes.items _ c.args.pass own c.self.view_is c.requires.declared c.index-own.ensures in
    subst (λ a. words.index (words.site a) < i.table.shared.table_id.words) (sym c.plan_row-access.ensures) (place l.rules l.words.items l.passes.items i.table.shared.key i.table.shared.table_id i.seat.table_id i.seat.id i.seat.me c.self.invariant c.args.pass own at)

pub operate-found-requires-clause-seat : goal.operate-found-requires-clause-seat
operate-found-requires-clause-seat c = let i = c.self.inside in let l = i.last in let own = c.index-own.result.now in
    let at = read l.rules i.seat.me.0.words l.passes.items _ c.args.pass own c.self.view_is c.requires.declared c.index-own.ensures in
    (c.self.invariant.first, seen l.rules l.words.items l.passes.items i.table.shared.key i.table.shared.table_id i.seat.table_id i.seat.id i.seat.me c.self.invariant c.args.pass own at)

pub read-requires-clause-place : goal.read-requires-clause-place
read-requires-clause-place c = let i = c.self.inside in let l = i.last in let own = c.index-own.result.now in
    let at = read l.rules i.seat.me.0.words l.passes.items _ c.args.pass own c.self.view_is c.requires.declared c.index-own.ensures in
    subst (λ w. words.index w < i.table.shared.table_id.words) (sym (c.site-word.ensures ∙ ap words.site c.plan_row-access.ensures)) (place l.rules l.words.items l.passes.items i.table.shared.key i.table.shared.table_id i.seat.table_id i.seat.id i.seat.me c.self.invariant c.args.pass own at)

pub index_mut-requires : goal.index_mut-requires
index_mut-requires c = let i = c.self.inside in let l = i.last in let own = c.index-own.result.now in
    let at = read l.rules i.seat.me.0.words l.passes.items _ c.args.pass own c.self.view_is c.requires.declared c.index-own.ensures in
    let e : vec_len l.words ≡ length l.words.items = search rules in let n = long l.rules l.words.items l.passes.items i.table.shared.key i.table.shared.table_id i.seat.table_id i.seat.id i.seat.me c.self.invariant in
    let h = subst (λ w. words.index w < i.table.shared.table_id.words) (sym (c.site-word.ensures ∙ ap words.site c.plan_row-access.ensures)) (place l.rules l.words.items l.passes.items i.table.shared.key i.table.shared.table_id i.seat.table_id i.seat.id i.seat.me c.self.invariant c.args.pass own at) in
    subst (λ k. k < vec_len l.words) (sym c.index.ensures) (omega (arith, e, n, h))

pub invariant_of-self : goal.invariant_of-self
invariant_of-self c = let i = c.self.inside in let l = i.last in let own = c.index-own.result.now in
    let at = read l.rules i.seat.me.0.words l.passes.items _ c.args.pass own c.self.view_is c.requires.declared c.index-own.ensures in
    let row = subst (λ (z : Me (Unit {0}) Whole). Steps l.rules c.args.pass own c.args.choice i.seat.me.0 c.operate-found.result z.0) (sym c.read.ensures.unchanged) c.operate-found.ensures.row in
    let go = sym c.is_moving.ensures ∙ c.if-not-is_moving.false in
    row-kept l.rules l.words.items l.passes.items i.table.shared.key i.table.shared.table_id i.seat.table_id i.seat.id i.seat.me c.self.invariant c.args.pass own at c.args.choice c.operate-found.result c.read.new.seat.me row
    c.read.new.seat.table_id c.read.new.seat.id (set l.words.items c.index.result c.read.result) c.take_row.result (c.read.ensures.table.0 ∙ c.operate-found.ensures.table.0, c.read.ensures.table.1 ∙ c.operate-found.ensures.table.1)
    (read-again l.rules l.words.items l.passes.items i.table.shared.key i.table.shared.table_id i.seat.table_id i.seat.id i.seat.me c.self.invariant c.args.pass own at c.args.choice c.operate-found.result c.read.new.seat.me row
    c.index.result c.read.result (c.index.ensures ∙ ap words.index (c.site-word.ensures ∙ ap words.site c.plan_row-access.ensures)) (c.read.ensures.word ∙ (λ j. words.look (sym c.read.ensures.unchanged j).0.words ((c.site-word.ensures ∙ ap words.site c.plan_row-access.ensures) j)))
    ) (ap (λ (z : Me (Unit {0}) Whole). z.1) c.read.ensures.unchanged ∙ c.operate-found.ensures.bare) go c.take_row.ensures

pub returns-clause-after : goal.returns-clause-after
returns-clause-after c = let i = c.self.inside in let l = i.last in let own = c.index-own.result.now in
    let at = read l.rules i.seat.me.0.words l.passes.items _ c.args.pass own c.self.view_is c.requires.declared c.index-own.ensures in
    let row = subst (λ (z : Me (Unit {0}) Whole). Steps l.rules c.args.pass own c.args.choice i.seat.me.0 c.operate-found.result z.0) (sym c.read.ensures.unchanged) c.operate-found.ensures.row in
    let go = sym c.is_moving.ensures ∙ c.if-not-is_moving.false in
    row-told l.rules l.words.items l.passes.items i.table.shared.key i.table.shared.table_id i.seat.table_id i.seat.id i.seat.me c.self.invariant c.args.pass own at
    c.args.choice c.operate-found.result c.read.new.seat.me row _ c.take_row.result c.self.view_is go c.take_row.ensures

pub returns-clause-terms : goal.returns-clause-terms
returns-clause-terms c = let i = c.self.inside in let l = i.last in let own = c.index-own.result.now in
    let at = read l.rules i.seat.me.0.words l.passes.items _ c.args.pass own c.self.view_is c.requires.declared c.index-own.ensures in
    let row = subst (λ (z : Me (Unit {0}) Whole). Steps l.rules c.args.pass own c.args.choice i.seat.me.0 c.operate-found.result z.0) (sym c.read.ensures.unchanged) c.operate-found.ensures.row in
    let go = sym c.is_moving.ensures ∙ c.if-not-is_moving.false in
    keeps-terms (lock l.rules i.seat.me.0.words l.passes.items) c.args.self.now (lock l.rules c.read.new.seat.me.0.words (set l.passes.items c.args.pass c.take_row.result)) (Step c.args.pass c.args.choice) (lawful l.rules l.words.items l.passes.items i.table.shared.key i.table.shared.table_id i.seat.table_id i.seat.id i.seat.me c.self.invariant) c.self.view_is tt
    (row-told l.rules l.words.items l.passes.items i.table.shared.key i.table.shared.table_id i.seat.table_id i.seat.id i.seat.me c.self.invariant c.args.pass own at
    c.args.choice c.operate-found.result c.read.new.seat.me row (lock l.rules i.seat.me.0.words l.passes.items) c.take_row.result refl go c.take_row.ensures)

pub returns-clause-event : goal.returns-clause-event
returns-clause-event c = let i = c.self.inside in let l = i.last in let own = c.index-own.result.now in
    let at = read l.rules i.seat.me.0.words l.passes.items _ c.args.pass own c.self.view_is c.requires.declared c.index-own.ensures in
    let row = subst (λ (z : Me (Unit {0}) Whole). Steps l.rules c.args.pass own c.args.choice i.seat.me.0 c.operate-found.result z.0) (sym c.read.ensures.unchanged) c.operate-found.ensures.row in
    let go = sym c.is_moving.ensures ∙ c.if-not-is_moving.false in
    admits-event (lock l.rules i.seat.me.0.words l.passes.items) c.args.self.now (lock l.rules c.read.new.seat.me.0.words (set l.passes.items c.args.pass c.take_row.result)) (Step c.args.pass c.args.choice) (lawful l.rules l.words.items l.passes.items i.table.shared.key i.table.shared.table_id i.seat.table_id i.seat.id i.seat.me c.self.invariant) c.self.view_is tt
    (row-told l.rules l.words.items l.passes.items i.table.shared.key i.table.shared.table_id i.seat.table_id i.seat.id i.seat.me c.self.invariant c.args.pass own at
    c.args.choice c.operate-found.result c.read.new.seat.me row (lock l.rules i.seat.me.0.words l.passes.items) c.take_row.result refl go c.take_row.ensures)

pub returns-clause-shown : goal.returns-clause-shown
returns-clause-shown c = let i = c.self.inside in let l = i.last in let own = c.index-own.result.now in
    let at = read l.rules i.seat.me.0.words l.passes.items _ c.args.pass own c.self.view_is c.requires.declared c.index-own.ensures in
    let row = subst (λ (z : Me (Unit {0}) Whole). Steps l.rules c.args.pass own c.args.choice i.seat.me.0 c.operate-found.result z.0) (sym c.read.ensures.unchanged) c.operate-found.ensures.row in
    let go = sym c.is_moving.ensures ∙ c.if-not-is_moving.false in
    shows-event (lock l.rules i.seat.me.0.words l.passes.items) c.args.self.now (lock l.rules c.read.new.seat.me.0.words (set l.passes.items c.args.pass c.take_row.result)) (Step c.args.pass c.args.choice) (lawful l.rules l.words.items l.passes.items i.table.shared.key i.table.shared.table_id i.seat.table_id i.seat.id i.seat.me c.self.invariant) c.self.view_is tt
    (row-told l.rules l.words.items l.passes.items i.table.shared.key i.table.shared.table_id i.seat.table_id i.seat.id i.seat.me c.self.invariant c.args.pass own at
    c.args.choice c.operate-found.result c.read.new.seat.me row (lock l.rules i.seat.me.0.words l.passes.items) c.take_row.result refl go c.take_row.ensures)

pub returns-clause-row : goal.returns-clause-row
returns-clause-row c = let i = c.self.inside in let l = i.last in let own = c.index-own.result.now in
    let at = read l.rules i.seat.me.0.words l.passes.items _ c.args.pass own c.self.view_is c.requires.declared c.index-own.ensures in
    let row = subst (λ (z : Me (Unit {0}) Whole). Steps l.rules c.args.pass own c.args.choice i.seat.me.0 c.operate-found.result z.0) (sym c.read.ensures.unchanged) c.operate-found.ensures.row in
    let go = sym c.is_moving.ensures ∙ c.if-not-is_moving.false in
    λ _. makes-row c.args.self.now _ c.args.pass c.args.choice (moves l.rules i.seat.me.0.words l.passes.items c.args.pass own at c.args.self.now c.self.view_is go)
    (row-told l.rules l.words.items l.passes.items i.table.shared.key i.table.shared.table_id i.seat.table_id i.seat.id i.seat.me c.self.invariant c.args.pass own at
    c.args.choice c.operate-found.result c.read.new.seat.me row _ c.take_row.result c.self.view_is go c.take_row.ensures)

pub returns-clause-round : goal.returns-clause-round
returns-clause-round c = let i = c.self.inside in let l = i.last in let own = c.index-own.result.now in
    let at = read l.rules i.seat.me.0.words l.passes.items _ c.args.pass own c.self.view_is c.requires.declared c.index-own.ensures in
    let row = subst (λ (z : Me (Unit {0}) Whole). Steps l.rules c.args.pass own c.args.choice i.seat.me.0 c.operate-found.result z.0) (sym c.read.ensures.unchanged) c.operate-found.ensures.row in
    let go = sym c.is_moving.ensures ∙ c.if-not-is_moving.false in
    begins-short (lock l.rules i.seat.me.0.words l.passes.items) c.args.self.now (lock l.rules c.read.new.seat.me.0.words (set l.passes.items c.args.pass c.take_row.result)) c.args.pass c.args.choice (lawful l.rules l.words.items l.passes.items i.table.shared.key i.table.shared.table_id i.seat.table_id i.seat.id i.seat.me c.self.invariant) c.self.view_is
    (row-told l.rules l.words.items l.passes.items i.table.shared.key i.table.shared.table_id i.seat.table_id i.seat.id i.seat.me c.self.invariant c.args.pass own at
    c.args.choice c.operate-found.result c.read.new.seat.me row (lock l.rules i.seat.me.0.words l.passes.items) c.take_row.result refl go c.take_row.ensures)
