use Rattle.std.proofs.Common.{◌≡◌, ◌+◌, length}
use Rattle.program_tests.proofs.versions.threads.publish_all.Given as goal

abbrev pub invariant-loop-version : goal.invariant-loop-version
invariant-loop-version g l = record {
  registry : l.publisher.registry ≡ l.registry;
  rows : length l.publisher.rows + 1 ≡ l.version-counter;
}
