use Rattle.std.proofs.Common.{◌≡◌, drop}
use Rattle.sim_line.specs.Named.{named}
use Rattle.sim_line.proofs.named.candidate_named.Given as goal

abbrev pub invariant-loop-candidate : goal.invariant-loop-candidate
invariant-loop-candidate l = named l.name (drop l.candidate-index l.setup.policies) ≡ named l.name l.setup.policies
