use Rattle.std.proofs.Common.{◌≡◌}
use Rattle.sim_model.specs.Openings.{lines_below}
use Rattle.sim_model.proofs.bench.opening_lines.Given as goal

abbrev pub invariant-loop-pass : goal.invariant-loop-pass
invariant-loop-pass l = l.lines ≡ lines_below l.pass
