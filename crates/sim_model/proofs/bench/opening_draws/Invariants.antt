use Rattle.std.proofs.Common.{◌≡◌}
use Rattle.sim_model.specs.Openings.{draws_below}
use Rattle.sim_model.proofs.bench.opening_draws.Given as goal

abbrev pub invariant-loop-pass : goal.invariant-loop-pass
invariant-loop-pass l = l.draws ≡ draws_below l.setup l.pass
