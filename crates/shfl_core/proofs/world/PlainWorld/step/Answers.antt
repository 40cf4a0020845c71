use Rattle.std.proofs.Common.{sym, ◌∙◌}
use Rattle.shfl_core.proofs.Standing.{read, room, step-lock, step-seen}
use Rattle.shfl_core.proofs.world.PlainWorld.step.Goals as goal

pub perform-found-requires : goal.perform-found-requires
perform-found-requires g c = let i = c.self.inside in let f = g.W.Waiter.meaning in let o = c.index_mut-own.result.now in
    record { place = room f i.words.items i.passes.items c.self.invariant c.args.pass o (read f i.words.items i.passes.items _ c.args.pass o c.self.view_is c.requires.declared c.index_mut-own.ensures.value) c.plan-access.result c.plan-access.ensures }

pub invariant_of-self-2 : goal.invariant_of-self-2
invariant_of-self-2 g c = let i = c.self.inside in let f = g.W.Waiter.meaning in let o = c.index_mut-own.result.now in let a = c.perform-found.ensures in
    step-lock f i.words.items i.passes.items c.self.invariant c.args.pass o (read f i.words.items i.passes.items _ c.args.pass o c.self.view_is c.requires.declared c.index_mut-own.ensures.value) c.plan-access.result c.plan-access.ensures c.perform-found.result c.perform-found.new.list.items a.told a.word c.args.choice c.take.new.self c.take.ensures

pub returns-clause-after : goal.returns-clause-after
returns-clause-after g c = let i = c.self.inside in let f = g.W.Waiter.meaning in let o = c.index_mut-own.result.now in let a = c.perform-found.ensures in
    step-seen f i.words.items i.passes.items c.self.invariant c.args.pass o (read f i.words.items i.passes.items _ c.args.pass o c.self.view_is c.requires.declared c.index_mut-own.ensures.value) c.plan-access.result c.plan-access.ensures c.perform-found.result c.perform-found.new.list.items a.told a.word c.args.choice c.take.new.self c.take.ensures _ c.self.view_is (sym c.moving.ensures ∙ c.if-not-moving.false)
