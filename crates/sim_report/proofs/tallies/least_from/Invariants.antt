use Rattle.std.proofs.Common.{◌≡◌, ◌≤◌}
use Rattle.std.specs.Prelude.{IfSome}
use Rattle.sim_report.specs.Tallies.{least_from}
use Rattle.sim_report.proofs.tallies.least_from.Given as goal

abbrev pub invariant-loop-pass : goal.invariant-loop-pass
invariant-loop-pass l = record {
  found : l.found ≡ least_from l.key l.first l.attrs l.pass;
  small : IfSome l.found (λ v. v ≤ 65535);
}
