use Rattle.std.proofs.Common.{◌≡◌}
use Rattle.sim_setup.specs.Cores.{mates}
use Rattle.sim_setup.proofs.setup.mates.Given as goal

abbrev pub invariant-loop-other : goal.invariant-loop-other
invariant-loop-other l = l.set ≡ mates l.attrs l.pass l.other
