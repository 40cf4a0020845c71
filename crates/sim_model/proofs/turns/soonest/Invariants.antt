use Rattle.std.proofs.Common.{◌≡◌, ◌<◌}
use Rattle.std.specs.Prelude.{IfSome}
use Rattle.sim_model.specs.Turns.{soonest}
use Rattle.sim_model.proofs.turns.soonest.Given as goal

abbrev pub invariant-loop-pass : goal.invariant-loop-pass
invariant-loop-pass l = record {
  found : l.found ≡ soonest l.stands l.pass;
  declared : IfSome l.found (λ e. e.pass < l.pass);
}
