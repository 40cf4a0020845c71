use Rattle.std.proofs.Common.{◌≡◌}
use Rattle.sim_report.specs.Tallies.{tally_below}
use Rattle.sim_report.proofs.tallies.tally_of.Given as goal

abbrev pub invariant-loop-pass : goal.invariant-loop-pass
invariant-loop-pass l = l.tally ≡ tally_below l.key l.value l.until l.attrs l.served l.pass
