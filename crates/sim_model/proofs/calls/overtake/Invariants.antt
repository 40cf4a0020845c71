use Rattle.std.proofs.Common.{◌≡◌}
use Rattle.sim_model.specs.Calls.{overtaken}
use Rattle.sim_model.specs.Firsts.{mapped}
use Rattle.sim_model.proofs.calls.overtake.Given as goal

-- those so far are passed, and the others are as they were
abbrev pub invariant-loop-pass : goal.invariant-loop-pass
invariant-loop-pass l = l.served ≡ mapped (overtaken l.call) l.pass l.initial.served
