use Rattle.std.proofs.Common.{◌≡◌, vec_len}
use Rattle.program_tests.proofs.versions.policies.Given as goal

abbrev pub invariant-loop-name : goal.invariant-loop-name
invariant-loop-name g l = vec_len l.policies ≡ l.name
