use Rattle.std.proofs.Common.{◌≡◌, vec_len}
use Rattle.shfl_workers.specs.Loaded.{AreLoaded}
use Rattle.shfl_workers.proofs.policies.load_all.Given as goal

abbrev pub invariant-loop-number : goal.invariant-loop-number
invariant-loop-number l = record {
  count : vec_len l.policies ≡ l.number;
  loaded : AreLoaded l.profile l.declared l.policies.items;
}
