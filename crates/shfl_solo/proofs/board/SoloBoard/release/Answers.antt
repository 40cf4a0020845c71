use Rattle.std.proofs.Common.{refl}
use Rattle.shfl_core.specs.Worlds.{Release}
use Rattle.shfl_world.proofs.Moving.{shows-event, keeps-terms}
use Rattle.shfl_solo.specs.Rule.{lock}
use Rattle.shfl_solo.proofs.Moved.{read, release-told}
use Rattle.shfl_solo.proofs.Kept.{lawful, release-kept}
use Rattle.shfl_solo.proofs.board.SoloBoard.release.Goals as goal

pub invariant_of-self : goal.invariant_of-self
invariant_of-self c = let i = c.self.inside in let l = i.last in let own = c.index-own.result.now in let at = read l.rules i.seat.me.0.words l.passes.items _ c.args.pass own c.self.view_is c.requires.declared c.index-own.ensures in
    release-kept l.rules l.words.items l.passes.items i.table.shared.key i.table.shared.table_id i.seat.table_id i.seat.id i.seat.me c.self.invariant c.args.pass own at c.release_row.result c.release_row.ensures

pub returns-clause-after : goal.returns-clause-after
returns-clause-after c = let i = c.self.inside in let l = i.last in let own = c.index-own.result.now in let at = read l.rules i.seat.me.0.words l.passes.items _ c.args.pass own c.self.view_is c.requires.declared c.index-own.ensures in
    release-told l.rules i.seat.me.0.words l.passes.items c.args.pass own at _ c.release_row.result c.self.view_is c.release_row.ensures

pub returns-clause-terms : goal.returns-clause-terms
returns-clause-terms c = let i = c.self.inside in let l = i.last in let own = c.index-own.result.now in let at = read l.rules i.seat.me.0.words l.passes.items _ c.args.pass own c.self.view_is c.requires.declared c.index-own.ensures in
    keeps-terms (lock l.rules i.seat.me.0.words l.passes.items) c.args.self.now _ (Release c.args.pass)
    (lawful l.rules l.words.items l.passes.items i.table.shared.key i.table.shared.table_id i.seat.table_id i.seat.id i.seat.me c.self.invariant) c.self.view_is tt
    (release-told l.rules i.seat.me.0.words l.passes.items c.args.pass own at _ c.release_row.result refl c.release_row.ensures)

pub returns-clause-shown : goal.returns-clause-shown
returns-clause-shown c = let i = c.self.inside in let l = i.last in let own = c.index-own.result.now in let at = read l.rules i.seat.me.0.words l.passes.items _ c.args.pass own c.self.view_is c.requires.declared c.index-own.ensures in
    shows-event (lock l.rules i.seat.me.0.words l.passes.items) c.args.self.now _ (Release c.args.pass)
    (lawful l.rules l.words.items l.passes.items i.table.shared.key i.table.shared.table_id i.seat.table_id i.seat.id i.seat.me c.self.invariant) c.self.view_is tt
    (release-told l.rules i.seat.me.0.words l.passes.items c.args.pass own at _ c.release_row.result refl c.release_row.ensures)
