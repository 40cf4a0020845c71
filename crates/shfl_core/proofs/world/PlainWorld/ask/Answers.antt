use Rattle.std.proofs.Common.{◌∙◌}
use Rattle.shfl_core.proofs.Standing.{read, asks}
use Rattle.shfl_core.proofs.world.PlainWorld.ask.Goals as goal

pub returns : goal.returns
returns g c = let i = c.self.inside in let f = g.W.Waiter.meaning in let o = c.index.result.now in
    c.ask.ensures ∙ asks f i.words.items i.passes.items c.self.invariant c.args.pass o (read f i.words.items i.passes.items _ c.args.pass o c.self.view_is c.requires.declared c.index.ensures) _ c.self.view_is
