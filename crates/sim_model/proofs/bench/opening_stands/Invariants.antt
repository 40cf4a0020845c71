use Rattle.std.proofs.Common.{◌≡◌}
use Rattle.sim_model.specs.Openings.{stands_below}
use Rattle.sim_model.proofs.bench.opening_stands.Given as goal

abbrev pub invariant-loop-pass : goal.invariant-loop-pass
invariant-loop-pass l = l.stands ≡ stands_below l.setup l.pass
