use Rattle.std.proofs.Common.{◌≡◌}
use Rattle.dir_shards.proofs.LockEnds.{AreShorter, AreBack}
use Rattle.dir_shards.proofs.LockRuns.{HaveTold}
use Rattle.dir_shards.proofs.lock_closing.close_lock.Given as goal

abbrev pub invariant-loop-k : goal.invariant-loop-k
invariant-loop-k l = record {
  board : l.closing.board ≡ l.fn.board;
  passes : AreShorter l.k l.fn.passes l.passes;
  back : AreBack l.k l.fn.passes l.closing.back;
  told : HaveTold l.k l.fn.passes l.closing.parts;
}
