use Rattle.std.proofs.Common.{◌≡◌, ap, ◌∙◌, arith}
use Rattle.sim_setup.specs.Sets.{is_within, within_below}
use Rattle.sim_setup.proofs.sets.is_within.Goals as goal

pub returns : goal.returns
unfolding is_within
returns c = let e : c.loop-word.word ≡ 16 = omega arith in c.loop-word.invariant ∙ ap (within_below c.args.a.now c.args.b.now) e
