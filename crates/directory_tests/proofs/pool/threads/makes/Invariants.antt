use Rattle.std.proofs.Common.{◌≡◌, All, vec_len}
use Rattle.dir_table.specs.Meanings.{IsAdmitted}
use Rattle.directory_tests.proofs.pool.threads.makes.Given as goal

abbrev pub invariant-loop-name : goal.invariant-loop-name
invariant-loop-name g l = record {
  len : vec_len l.calls ≡ l.name;
  admitted : All (IsAdmitted 4096) l.calls.items;
}
