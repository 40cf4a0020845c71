use Rattle.std.proofs.Common.{◌≡◌, ◌+◌, length}
use Rattle.policy_versions.specs.Models.{IsClosed}
use Rattle.program_tests.proofs.versions.follow.Given as goal

abbrev pub invariant-loop-version : goal.invariant-loop-version
invariant-loop-version g l = record {
  registry : l.publisher.registry ≡ l.registry;
  rows : length l.publisher.rows + 1 ≡ l.version-counter;
  pass : IsClosed l.registry l.pass;
}
