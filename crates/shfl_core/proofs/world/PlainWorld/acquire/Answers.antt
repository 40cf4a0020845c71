use Rattle.shfl_core.proofs.Standing.{read, acquire-lock, acquire-seen, may-use}
use Rattle.shfl_core.proofs.world.PlainWorld.acquire.Goals as goal

pub acquire-requires : goal.acquire-requires
acquire-requires g c = let i = c.self.inside in let f = g.W.Waiter.meaning in let o = c.index_mut.result.now in
    may-use f i.words.items i.passes.items c.self.invariant c.args.pass o (read f i.words.items i.passes.items _ c.args.pass o c.self.view_is c.requires.declared c.index_mut.ensures.value) _ c.self.view_is c.args.mode c.requires.mode

pub invariant_of-self : goal.invariant_of-self
invariant_of-self g c = let i = c.self.inside in let f = g.W.Waiter.meaning in let o = c.index_mut.result.now in
    acquire-lock f i.words.items i.passes.items c.self.invariant c.args.pass o (read f i.words.items i.passes.items _ c.args.pass o c.self.view_is c.requires.declared c.index_mut.ensures.value) c.args.mode c.acquire.new.self c.acquire.ensures.after

pub returns-clause-after : goal.returns-clause-after
returns-clause-after g c = let i = c.self.inside in let f = g.W.Waiter.meaning in let o = c.index_mut.result.now in
    acquire-seen f i.words.items i.passes.items c.self.invariant c.args.pass o (read f i.words.items i.passes.items _ c.args.pass o c.self.view_is c.requires.declared c.index_mut.ensures.value) _ c.self.view_is c.args.mode c.acquire.new.self c.acquire.ensures.after
