use Rattle.std.proofs.Common.{◌≡◌}
use Rattle.sim_setup.specs.Sets.{joined_below}
use Rattle.sim_setup.proofs.sets.joined.Given as goal

abbrev pub invariant-loop-word : goal.invariant-loop-word
invariant-loop-word l = l.set ≡ joined_below l.a l.b l.word
