use Rattle.std.proofs.Common.{◌≡◌, ◌≤◌, ℕ, length, Some, slice_get, vec_len}
use Rattle.dir_shards.specs.Locks.{LockPass}
use Rattle.dir_shards.proofs.Dealing.{AreDealt}
use Rattle.dir_shards.proofs.locks.deal.Given as goal

abbrev pub invariant-loop-pass : goal.invariant-loop-pass
invariant-loop-pass l = record {
  left : (k : ℕ) (q : LockPass) → slice_get l.passes.items k ≡ Some q → slice_get l.fn.passes.items k ≡ Some q;
  within : vec_len l.passes ≤ length l.fn.all;
  dealt : AreDealt l.board.id (vec_len l.passes) l.fn.all l.all;
}

abbrev pub decreases-loop-pass : goal.decreases-loop-pass
decreases-loop-pass l = vec_len l.passes
