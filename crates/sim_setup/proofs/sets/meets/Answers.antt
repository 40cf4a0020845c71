use Rattle.std.proofs.Common.{◌≡◌, ap, ◌∙◌, arith}
use Rattle.sim_setup.specs.Sets.{meets, meets_below}
use Rattle.sim_setup.proofs.sets.meets.Goals as goal

pub returns : goal.returns
unfolding meets
returns c = let e : c.loop-word.word ≡ 16 = omega arith in c.loop-word.invariant ∙ ap (meets_below c.args.a.now c.args.b.now) e
