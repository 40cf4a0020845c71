use Rattle.std.proofs.Common.{◌≡◌}
use Rattle.directory_tests.proofs.directory.fill.Given as goal

abbrev pub invariant-loop-name : goal.invariant-loop-name
invariant-loop-name g l = l.dir.room ≡ 1000
