use Rattle.policy_versions.specs.Models.{IsClosed}
use Rattle.program_tests.proofs.versions.threads.use_often.Given as goal

abbrev pub invariant-loop : goal.invariant-loop
invariant-loop g l = IsClosed l.registry l.pass
