use Rattle.std.proofs.Common.{◌≡◌}
use Rattle.sim_setup.specs.Cores.{cores_below}
use Rattle.sim_setup.proofs.setup.cores_of.Given as goal

abbrev pub invariant-loop-pass : goal.invariant-loop-pass
invariant-loop-pass l = l.cores ≡ cores_below l.attrs l.pass
