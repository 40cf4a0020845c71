use Rattle.std.proofs.Common.{◌≡◌}
use Rattle.sim_setup.specs.Sets.{within_below}
use Rattle.sim_setup.proofs.sets.is_within.Given as goal

abbrev pub invariant-loop-word : goal.invariant-loop-word
invariant-loop-word l = l.all ≡ within_below l.a l.b l.word
