use Rattle.shfl_core.proofs.Standing.{read, release-lock, release-seen}
use Rattle.shfl_core.proofs.world.PlainWorld.release.Goals as goal

pub invariant_of-self : goal.invariant_of-self
invariant_of-self g c = let i = c.self.inside in let f = g.W.Waiter.meaning in let o = c.index_mut.result.now in
    release-lock f i.words.items i.passes.items c.self.invariant c.args.pass o (read f i.words.items i.passes.items _ c.args.pass o c.self.view_is c.requires.declared c.index_mut.ensures.value) c.release.new.self c.release.ensures.after

pub returns-clause-after : goal.returns-clause-after
returns-clause-after g c = let i = c.self.inside in let f = g.W.Waiter.meaning in let o = c.index_mut.result.now in
    release-seen f i.words.items i.passes.items c.self.invariant c.args.pass o (read f i.words.items i.passes.items _ c.args.pass o c.self.view_is c.requires.declared c.index_mut.ensures.value) _ c.self.view_is c.release.new.self c.release.ensures.after
