use Rattle.std.proofs.Common.{◌≡◌}
use Rattle.sim_setup.specs.Sets.{meets_below}
use Rattle.sim_setup.proofs.sets.meets.Given as goal

abbrev pub invariant-loop-word : goal.invariant-loop-word
invariant-loop-word l = l.found ≡ meets_below l.a l.b l.word
