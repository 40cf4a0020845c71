use Rattle.std.proofs.Common.{◌≡◌, All, vec_len}
use Rattle.shfl_workers.specs.Opened.{directory_for}
use Rattle.shfl_workers.proofs.rw_dir.directories_for.Given as goal

abbrev pub invariant-loop-number : goal.invariant-loop-number
invariant-loop-number l = record {
  len : vec_len l.dirs ≡ l.number;
  all : All (λ d. d ≡ directory_for l.trace) l.dirs.items;
}
