use Rattle.std.proofs.Common.{◌≡◌}
use Rattle.sim_model.specs.Turns.{woken}
use Rattle.sim_model.specs.Firsts.{mapped}
use Rattle.sim_model.proofs.turns.wake_line.Given as goal

-- those so far are woken, and the others are as they were
abbrev pub invariant-loop-pass : goal.invariant-loop-pass
invariant-loop-pass l = l.stands ≡ mapped (woken l.line l.ends) l.pass l.initial.stands
